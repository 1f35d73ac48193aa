-- Free variables are places of the context.
use Rattle.std.proofs.Common.{ℕ, zero, suc, ◌≡◌, ◌<◌, All, List, [], ◌∷◌, Contains, length, sym, subst, inl, inr}
use Rattle.std.proofs.lemmas.Option.{slice_get_within}
use Rattle.std.proofs.lemmas.List.Elements.{All-contains}
use Rattle.mz_logic_theory.specs.Tree.{Tree, Trees, var, app, none, more, operand}
use Rattle.mz_logic_theory.specs.Signature.{Signature}
use Rattle.mz_logic_theory.specs.Declaration.{Term, Declaration, term_decl, context_of, dummies_of, sorts}
use Rattle.mz_logic_theory.specs.Variables.{InV, InFV, InSomeFV}
use Rattle.mz_logic_theory.specs.Legality.{Each, InRange, AllInRange, IsBinderThere, NamesThere}
use Rattle.mz_logic_theory.specs.declared.binder.Binder.{Binder}
use Rattle.mz_logic_theory.proofs.Fresh.{split_at}
use Rattle.mz_logic_theory.proofs.Lists.{each_from_all}

abbrev pub DepsInside : List Binder → Type 0
DepsInside ctx = Each ctx (λ _ b. (x : ℕ) → Contains b.deps x → x < length ctx)

var_below : (ctx : List Binder) → DepsInside ctx → (x y : ℕ) → InV ctx x (var y) → x < length ctx
var_below ctx inside x y (b, at, inl (bd, is)) = subst (λ z. z < length ctx) (sym is) (slice_get_within ctx y b at)
var_below ctx inside x y (b, at, inr (bd, has)) = inside y b at x has

-- an operand that is a variable in range
operand_below : (sigs : List Signature) (n : ℕ) (es : Trees) → AllInRange sigs n es → (j x : ℕ) → operand es j ≡ var x → x < n
operand_below sigs n none ranges j x is = absurd (let e : app 0 none ≡ var x = is in cc)
operand_below sigs n (more e es) ranges zero x is = subst (InRange sigs n) is ranges.0
operand_below sigs n (more e es) ranges (suc j) x is = operand_below sigs n es ranges.1 j x is

mutual
  pub free_below : (sigs : List Signature) (ctx : List Binder) → DepsInside ctx → (x : ℕ) (e : Tree) → InRange sigs (length ctx) e → InFV sigs ctx x e → x < length ctx
  free_below sigs ctx inside x (var y) range h = var_below ctx inside x y h
  free_below sigs ctx inside x (app t es) range (d, at, inl h) = some_free_below sigs ctx inside x d.params es d.params es range.2 h
  free_below sigs ctx inside x (app t es) range (d, at, inr (j, _, _, is)) = operand_below sigs (length ctx) es range.2 j x is

  pub some_free_below : (sigs : List Signature) (ctx : List Binder) → DepsInside ctx → (x : ℕ) (params : List Binder) (all : Trees) (ps : List Binder) (es : Trees) → AllInRange sigs (length ctx) es → InSomeFV sigs ctx x params all ps es → x < length ctx
  some_free_below sigs ctx inside x params all ps none ranges h = absurd h
  some_free_below sigs ctx inside x params all [] (more e es) ranges h = absurd h
  some_free_below sigs ctx inside x params all (p ∷ ps) (more e es) ranges (inl (_, h, _)) = free_below sigs ctx inside x e ranges.0 h
  some_free_below sigs ctx inside x params all (p ∷ ps) (more e es) ranges (inr h) = some_free_below sigs ctx inside x params all ps es ranges.1 h

pub context_inside : (env : List Declaration) (d : Term) → NamesThere env (term_decl d) → DepsInside (context_of d)
context_inside env d names i b at x has = elim (split_at d.signature.params (dummies_of d.form) i b at) [
  | inl here ↦ below (each_from_all (IsBinderThere (sorts env) (length (context_of d))) d.signature.params names.0 i b here).1
  | inr later ↦ below (each_from_all (IsBinderThere (sorts env) (length (context_of d))) (dummies_of d.form) names.1 later.0 b later.2).1
]
  where
    below : All (λ j. j < length (context_of d)) b.deps → x < length (context_of d)
    below all = All-contains (λ j. j < length (context_of d)) b.deps x all has
