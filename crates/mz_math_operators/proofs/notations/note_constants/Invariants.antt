use Rattle.std.proofs.Common.{ℕ, ◌<◌}
use Rattle.mz_math_operators.specs.Headed.{AreFound, IsNoted}
use Rattle.mz_math_operators.proofs.notations.note_constants.Given as goal

abbrev pub invariant-loop-place : goal.invariant-loop-place
invariant-loop-place l = AreFound l.constants l.items × ((i : ℕ) → i < l.place → IsNoted l.constants l.items l.notation i)
