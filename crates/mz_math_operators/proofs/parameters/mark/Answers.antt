use Rattle.std.proofs.Common.{◌<◌, true, length, arith}
use Rattle.std.proofs.lemmas.Bool.{false≢true, true≢false}
use Rattle.std.proofs.lemmas.List.{length-set}
use Rattle.mz_math_operators.proofs.Marking.{mark-past, mark-set}
use Rattle.mz_math_operators.proofs.parameters.mark.Goals as goal

pub returns-then-place-marks-clause-marked : goal.returns-then-place-marks-clause-marked
returns-then-place-marks-clause-marked c = λ is i below. mark-past c.args.marks.now c.args.place i c.if-place-marks.true below

pub returns-then-place-marks-clause-twice : goal.returns-then-place-marks-clause-twice
returns-then-place-marks-clause-twice c = λ is. absurd (true≢false is)

pub returns-then-marks-place-clause-marked : goal.returns-then-marks-place-clause-marked
returns-then-marks-place-clause-marked c = λ is. absurd (false≢true is)

pub returns-then-marks-place-clause-twice : goal.returns-then-marks-place-clause-twice
returns-then-marks-place-clause-twice c = λ is. (omega (arith, c.if-place-marks.false), c.if-marks-place.true)

pub returns-clause-many : goal.returns-clause-many
returns-clause-many c = length-set c.args.marks.now c.args.place true

pub returns-clause-marked : goal.returns-clause-marked
returns-clause-marked c = λ is i below. mark-set c.args.marks.now c.args.place i (let within : c.args.place < length c.args.marks.now = omega (arith, c.if-place-marks.false) in within) c.if-marks-place.false

pub returns-clause-twice : goal.returns-clause-twice
returns-clause-twice c = λ is. absurd (true≢false is)
