use Rattle.std.proofs.Common.{ℕ, ◌<◌, refl}
use Rattle.mz_base.proofs.Offered.{all_so_far_more}
use Rattle.mz_logic_theory.specs.Variables.{IsBoundAt}
use Rattle.mz_logic_theory.proofs.Offered.{all_at_end}
use Rattle.mz_logic.proofs.check.are_bound_before.Goals as goal

pub loop-j-preserved : goal.loop-j-preserved
loop-j-preserved c =
    let P : ℕ → Type 0 = λ j. (j < c.args.end) × IsBoundAt c.args.params.now j in
    all_so_far_more P _ _ 0 c.loop-j.invariant c.loop-j-test.true (c.if-not-is_bound_before.ensures.0 refl)

pub returns : goal.returns
returns c =
    let P : ℕ → Type 0 = λ j. (j < c.args.end) × IsBoundAt c.args.params.now j in
    (λ _. all_at_end P _ _ _ c.loop-j.invariant c.loop-j-test.false c.as_slice-j-items.ensures, λ _. refl)
