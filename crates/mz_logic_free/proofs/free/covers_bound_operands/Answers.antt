use Rattle.std.proofs.Common.{◌≡◌, ◌∙◌, ℕ, All, Contains, refl, subst, sym, true≢false}
use Rattle.mz_base.proofs.Offered.{all_so_far_more}
use Rattle.mz_logic_theory.specs.Tree.{operand, var}
use Rattle.mz_logic_theory.specs.Variables.{IsBoundAt}
use Rattle.mz_logic_theory.proofs.Offered.{all_at_end}
use Rattle.mz_logic_free.proofs.free.covers_bound_operands.Goals as goal

pub returns-then-not-covers_bound_operand : goal.returns-then-not-covers_bound_operand
returns-then-not-covers_bound_operand c =
    let P : ℕ → Type 0 = λ j. (x : ℕ) → IsBoundAt c.args.params.now j → operand c.args.es.now j ≡ var x → Contains c.args.covered.now x in (
      λ never. absurd (true≢false (sym never)),
      λ all.
          let here = subst (All P) (sym c.as_slice-place-items.ensures) all c.loop-place.place-index 0 c.loop-place-test.true in
          absurd (true≢false (sym (c.covers_bound_operand.ensures.1 here) ∙ c.if-not-covers_bound_operand.true)),
    )

pub loop-place-preserved : goal.loop-place-preserved
loop-place-preserved c =
    let P : ℕ → Type 0 = λ j. (x : ℕ) → IsBoundAt c.args.params.now j → operand c.args.es.now j ≡ var x → Contains c.args.covered.now x in
    all_so_far_more P _ _ 0 c.loop-place.invariant c.loop-place-test.true (c.covers_bound_operand.ensures.0 c.if-not-covers_bound_operand.false)

pub returns : goal.returns
returns c =
    let P : ℕ → Type 0 = λ j. (x : ℕ) → IsBoundAt c.args.params.now j → operand c.args.es.now j ≡ var x → Contains c.args.covered.now x in
    (λ _. all_at_end P _ _ _ c.loop-place.invariant c.loop-place-test.false c.as_slice-place-items.ensures, λ _. refl)
