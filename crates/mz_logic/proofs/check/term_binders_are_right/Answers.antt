use Rattle.std.proofs.Common.{ℕ, ◌<◌, length, List, All, subst, sym, IsTrue, ◌↔◌, Bool, get_or, ◌≡◌}
use Rattle.std.proofs.lemmas.Option.{slice_get_within}
use Rattle.mz_logic_theory.specs.Legality.{IsDummy}
use Rattle.mz_logic_theory.specs.Variables.{IsBoundAt}
use Rattle.mz_logic_theory.specs.declared.binder.Binder.{Binder}
use Rattle.mz_logic.proofs.check.term_binders_are_right.Goals as goal

without_end : (r : Bool) (ps qs : List Binder) (n : ℕ) (places : List ℕ) → qs ≡ ps → n ≡ length ps → IsTrue r ↔ All (λ j. (j < n) × IsBoundAt qs j) places → IsTrue r ↔ All (IsBoundAt ps) places
without_end r ps qs n places same is h = (
  λ t k d below. subst (λ xs. IsBoundAt xs (get_or places k d)) same (h.0 t k d below).1,
  λ all. h.1 (λ k d below. in_list _ (all k d below)),
)
  where
    in_list : (j : ℕ) → IsBoundAt ps j → (j < n) × IsBoundAt qs j
    in_list j (b, at, bd) = (subst (λ m. j < m) (sym is) (slice_get_within ps j b at), subst (λ xs. IsBoundAt xs j) (sym same) (b, at, bd))

pub returns-then-are_dummies : goal.returns-then-are_dummies
returns-then-are_dummies c =
    let (to, from) = without_end c.are_bound_before.result c.args.term.now.params c.as_slice.result.now c.len.result c.args.term.now.result.deps c.as_slice.ensures c.len.ensures c.are_bound_before.ensures in (
      λ t. (c.are_params.ensures.0 c.if-not-are_params.false, subst (All IsDummy) c.dummies.ensures (c.are_dummies.ensures.0 c.if-are_dummies.true), to t),
      λ right. from right.2,
    )
