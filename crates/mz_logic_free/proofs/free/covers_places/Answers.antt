use Rattle.std.proofs.Common.{◌∙◌, ◌<◌, length, ℕ, List, Contains, get_or, refl, subst, sym, true≢false}
use Rattle.mz_base.proofs.Offered.{all_so_far_more}
use Rattle.mz_logic_theory.proofs.Offered.{all_at_end}
use Rattle.mz_logic_free.proofs.free.covers_places.Goals as goal

pub returns-then-not-has : goal.returns-then-not-has
returns-then-not-has c = (
  λ no. absurd (true≢false (sym no)),
  λ all. absurd (
      let has = subst (λ (xs : List ℕ). Contains c.args.covered.now (get_or xs c.loop-place.place-index 0)) (sym c.as_slice-place-items.ensures) (all c.loop-place.place-index 0 (subst (λ (xs : List ℕ). c.loop-place.place-index < length xs) c.as_slice-place-items.ensures c.loop-place-test.true)) in
      true≢false (sym (c.has.ensures.1 has) ∙ c.if-not-has.true)),
)

pub loop-place-preserved : goal.loop-place-preserved
loop-place-preserved c = all_so_far_more (Contains c.args.covered.now) c.as_slice-place-items.result.now c.loop-place.place-index 0 c.loop-place.invariant c.loop-place-test.true (c.if-not-has.ensures.0 refl)

pub returns : goal.returns
returns c = (λ _. all_at_end (Contains c.args.covered.now) _ _ _ c.loop-place.invariant c.loop-place-test.false c.as_slice-place-items.ensures, λ _. refl)
