use Rattle.std.proofs.Common.{◌<◌}
use Rattle.mz_base.proofs.Offered.{AllSoFar}
use Rattle.mz_logic.proofs.check.places_are_below.Given as goal

abbrev pub invariant-loop-j : goal.invariant-loop-j
invariant-loop-j l = AllSoFar (λ j. j < l.end) l.j-items l.j-index
