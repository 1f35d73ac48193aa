-- Free variables are bound ones, where regular variables depend on bound ones alone.
use Rattle.std.proofs.Common.{ℕ, ◌≡◌, ◌<◌, ◌++◌, true≢false, All, List, [], ◌∷◌, slice_get, Some, length, sym, ◌∙◌, subst, inl, inr}
use Rattle.std.proofs.lemmas.List.Elements.{All-contains}
use Rattle.mz_base.proofs.Offered.{slice_get-append}
use Rattle.mz_logic_theory.specs.Tree.{Tree, Trees, var, app, none, more, operand}
use Rattle.mz_logic_theory.specs.Signature.{Signature}
use Rattle.mz_logic_theory.specs.Sorts.{HasSort, Fits, IsBoundVar}
use Rattle.mz_logic_theory.specs.Declaration.{Term, Declaration, term_decl, context_of, body_of, signatures}
use Rattle.mz_logic_theory.specs.Variables.{InV, InFV, InSomeFV, IsBoundAt}
use Rattle.mz_logic_theory.specs.Legality.{DependOnBound, AreParams, NamesThere, SortsRight, BoundRight, IsDummy, EachTree, AllInRange, HasOperandSorts, HasBoundOperands, sort_of}
use Rattle.mz_logic_theory.specs.declared.binder.Binder.{Binder}
use Rattle.mz_logic_theory.specs.declared.binder.SortMods.{SortMods}
use Rattle.mz_logic_theory.proofs.Fresh.{split_at}
use Rattle.mz_logic_theory.proofs.Instance.{one_at, bound_operand}
use Rattle.mz_logic_theory.proofs.Lists.{each_from_all}
use Rattle.mz_logic_theory.proofs.Rules.{sort_by_rules}

var_bound : (ctx : List Binder) → DependOnBound ctx → (x y : ℕ) → InV ctx x (var y) → IsBoundAt ctx x
var_bound ctx deps x y (b, at, inl (bound, is)) = (b, subst (λ z. slice_get ctx z ≡ Some b) (sym is) at, bound)
var_bound ctx deps x y (b, at, inr (regular, has)) = deps y b at regular x has

pub is_at : (ctx : List Binder) (x : ℕ) (e : Tree) → IsBoundVar ctx e → e ≡ var x → IsBoundAt ctx x
is_at ctx x e (y, b, is, at, bound) v = (b, subst (λ z. slice_get ctx z ≡ Some b) (let p : var y ≡ var x = sym is ∙ v in cc) at, bound)

mutual
  pub free_is_bound : (sigs : List Signature) (ctx : List Binder) → DependOnBound ctx → (x : ℕ) (e : Tree) (s : ℕ) → HasSort sigs ctx e s → InFV sigs ctx x e → IsBoundAt ctx x
  free_is_bound sigs ctx deps x (var y) s sorted h = var_bound ctx deps x y h
  free_is_bound sigs ctx deps x (app t es) s (d, at, is, fits) (c, at', inl h) =
      some_free_is_bound sigs ctx deps x c.params es c.params es (subst (λ p. Fits sigs ctx es p.params) (one_at at at') fits) h
  free_is_bound sigs ctx deps x (app t es) s (d, at, is, fits) (c, at', inr (j, _, (b, bat, bound), op)) =
      is_at ctx x (operand es j) (bound_operand sigs ctx c.params es (subst (λ p. Fits sigs ctx es p.params) (one_at at at') fits) j b bat bound) op

  pub some_free_is_bound : (sigs : List Signature) (ctx : List Binder) → DependOnBound ctx → (x : ℕ) (params : List Binder) (all : Trees) (ps : List Binder) (es : Trees)
      → Fits sigs ctx es ps → InSomeFV sigs ctx x params all ps es → IsBoundAt ctx x
  some_free_is_bound sigs ctx deps x params all ps none fits h = absurd h
  some_free_is_bound sigs ctx deps x params all [] (more e es) fits h = absurd h
  some_free_is_bound sigs ctx deps x params all (p ∷ ps) (more e es) fits (inl (_, h, _)) = free_is_bound sigs ctx deps x e p.sort fits.0 h
  some_free_is_bound sigs ctx deps x params all (p ∷ ps) (more e es) fits (inr h) = some_free_is_bound sigs ctx deps x params all ps es fits.2 h

-- a context of parameters and dummies
pub depends_on_bound : (ss : List SortMods) (ps ds : List Binder) → AreParams ss ps → All IsDummy ds → DependOnBound (ps ++ ds)
depends_on_bound ss ps ds params dummies i b at regular x has = elim (split_at ps ds i b at) [
  | inl here ↦ longer (All-contains (λ j. (j < i) × IsBoundAt ps j) b.deps x ((params i b here).1 regular) has).1
  | inr later ↦ absurd (true≢false (sym (each_from_all IsDummy ds dummies later.0 b later.2).0 ∙ regular))
]
  where
    longer : IsBoundAt ps x → IsBoundAt (ps ++ ds) x
    longer (c, cat, bound) = (c, slice_get-append ps ds x c cat, bound)

-- a body that meets the rules before that on its free variables has a sort
pub body_has_sort : (env : List Declaration) (d : Term) → NamesThere env (term_decl d) → SortsRight env (term_decl d) → BoundRight env (term_decl d)
    → (e : Tree) → body_of d.form ≡ more e none → (s : ℕ) × HasSort (signatures env) (context_of d) e s
body_has_sort env d names sorts bound e is = (
  sort_of (signatures env) (context_of d) e,
  sort_by_rules (signatures env) (context_of d) e
      (subst (AllInRange (signatures env) (length (context_of d))) is names.4).0
      (subst (EachTree (HasOperandSorts (signatures env) (context_of d))) is sorts.0).0
      (subst (EachTree (HasBoundOperands (signatures env) (context_of d))) is bound).0,
)
