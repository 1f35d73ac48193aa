-- What a sort or a path that was looked for is.
use Rattle.std.proofs.Common.{◌≡◌, ◌↔◌, ◌∙◌, ℕ, List, Option, None, Some, false, slice_get, length, ap, refl, sym, subst}
use Rattle.std.specs.Prelude.{MatchOption, IsTrue}
use Rattle.std.proofs.lemmas.Bool.{false≢true}
use Rattle.std.proofs.lemmas.Option.{none-some, same_Some}
use Rattle.mz_logic_theory.specs.Signature.{Signature}
use Rattle.mz_logic_theory.specs.Sorts.{IsBoundVar}
use Rattle.mz_logic_theory.specs.Tree.{Tree, Trees, var, app}
use Rattle.mz_logic_theory.specs.declared.binder.Binder.{Binder}
use Rattle.mz_logic_theory.proofs.Offered.{no-application, same-variable}
use Rattle.mz_math_theory.specs.declared.coercion.Coercion.{Coercion}
use Rattle.mz_math_theory.specs.CoercionAnswers.{HasLength}
use Rattle.mz_math_theory.specs.Coercions.{Reaches}
use Rattle.mz_math_theory.specs.Meaning.{Coerced}

-- the sort of what a tree stands for
abbrev pub IsSortOf : List Signature → List Coercion → List Binder → Tree → Option ℕ → Type 0
IsSortOf sigs cs ctx t o = MatchOption o ((e : Tree) (s : ℕ) → Coerced sigs cs ctx t e s → ⊥) (λ s. (e : Tree) × Coerced sigs cs ctx t e s)

module _ (sigs : List Signature) (cs : List Coercion) (ctx : List Binder) (t : Tree) (o : Option ℕ) (is : IsSortOf sigs cs ctx t o) where
  pub some-sort : (s : ℕ) → o ≡ Some s → (e : Tree) × Coerced sigs cs ctx t e s
  some-sort s found = subst (IsSortOf sigs cs ctx t) found is

  pub no-sort : o ≡ None → (e : Tree) (s : ℕ) → Coerced sigs cs ctx t e s → ⊥
  no-sort found = subst (IsSortOf sigs cs ctx t) found is

-- what stands for a variable
module _ (sigs : List Signature) (cs : List Coercion) (ctx : List Binder) (t : Tree) (x : ℕ) (is : t ≡ var x) where
  pub variable-stands : (b : Binder) → slice_get ctx x ≡ Some b → Coerced sigs cs ctx t (var x) b.sort
  variable-stands b at = subst (λ e. Coerced sigs cs ctx e (var x) b.sort) (sym is) (refl, b, at, refl)

  pub no-variable : slice_get ctx x ≡ None → (e : Tree) (s : ℕ) → Coerced sigs cs ctx t e s → ⊥
  no-variable none e s has = let parts = subst (λ u. Coerced sigs cs ctx u e s) is has in none-some parts.1 (sym none ∙ parts.2)

-- whether a tree is a bound variable
module _ (ctx : List Binder) (t : Tree) where
  pub bound-variable : (x : ℕ) (b : Binder) → t ≡ var x → slice_get ctx x ≡ Some b → IsTrue b.bound ↔ IsBoundVar ctx t
  bound-variable x b is at = (
    λ bound. (x, b, is, at, bound),
    λ (y, c, is_y, at_y, bound).
        let same = same-variable y x (sym is_y ∙ is) in
        ap (λ (p : Binder). p.bound) (same_Some b c (sym at ∙ subst (λ z. slice_get ctx z ≡ Some c) same at_y)) ∙ bound,
  )

  pub unbound-application : (u : ℕ) (es : Trees) → t ≡ app u es → IsTrue false ↔ IsBoundVar ctx t
  unbound-application u es is = (λ f. absurd (false≢true f), λ (x, b, is_x, at, bound). absurd (no-application x u es (sym is_x ∙ is)))

-- the length of the path between two sorts
abbrev pub IsLengthOf : List Coercion → ℕ → ℕ → Option ℕ → Type 0
IsLengthOf cs s to o = MatchOption o (Reaches cs (length cs) s to → ⊥) (HasLength cs (length cs) s to)

module _ (cs : List Coercion) (s to : ℕ) (o : Option ℕ) (is : IsLengthOf cs s to o) where
  pub some-length : (n : ℕ) → o ≡ Some n → HasLength cs (length cs) s to n
  some-length n found = subst (IsLengthOf cs s to) found is

  pub no-length : o ≡ None → Reaches cs (length cs) s to → ⊥
  no-length found = subst (IsLengthOf cs s to) found is
