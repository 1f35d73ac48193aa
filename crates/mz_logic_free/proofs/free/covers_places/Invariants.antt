use Rattle.std.proofs.Common.{Contains}
use Rattle.mz_base.proofs.Offered.{AllSoFar}
use Rattle.mz_logic_free.proofs.free.covers_places.Given as goal

abbrev pub invariant-loop-place : goal.invariant-loop-place
invariant-loop-place l = AllSoFar (Contains l.covered) l.place-items l.place-index
