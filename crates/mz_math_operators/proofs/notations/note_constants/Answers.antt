use Rattle.std.proofs.Common.{arith}
use Rattle.mz_base.proofs.Offered.{each_before_more}
use Rattle.mz_math_operators.specs.Headed.{IsNoted}
use Rattle.mz_math_operators.proofs.Spotting.{found-more}
use Rattle.mz_math_operators.proofs.notations.note_constants.Goals as goal

pub loop-place-preserved : goal.loop-place-preserved
loop-place-preserved c = (
  c.note_constant.ensures.found,
  each_before_more (IsNoted c.note_constant.new.constants c.args.items.now c.args.notation.now) c.loop-place.place (λ i below. c.note_constant.ensures.kept i (c.loop-place.invariant.1 i below)) c.in_ok-note_constant.ensures.ok,
)

pub returns-clause-ok : goal.returns-clause-ok
returns-clause-ok c =
    found-more c.loop-place.constants c.args.items.now c.args.notation.now c.listed-place-end.result.now c.listed-place-end.ensures c.loop-place.invariant.0
    (λ i below. c.loop-place.invariant.1 i (omega (arith, below, c.loop-place-test.false)))
