use Rattle.std.proofs.Common.{take}
use Rattle.mz_math_coercions.specs.Reached.{AreFoundIn}
use Rattle.mz_math_coercions.proofs.reached.note.Given as goal

abbrev pub invariant-steps : goal.invariant-steps
invariant-steps l = AreFoundIn l.places.entries (take l.i l.steps)
