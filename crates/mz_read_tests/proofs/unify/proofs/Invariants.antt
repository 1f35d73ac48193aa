use Rattle.mz_unify.specs.Stored.{AreItemsIn}
use Rattle.mz_read_tests.proofs.unify.proofs.Given as goal

abbrev pub invariant-loop-place : goal.invariant-loop-place
invariant-loop-place l = AreItemsIn l.store l.proofs.items
