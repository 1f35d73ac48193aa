use Rattle.mz_store.specs.Sharing.{AreIn}
use Rattle.mz_read_tests.proofs.unify.chosen.Given as goal

abbrev pub invariant-loop-place : goal.invariant-loop-place
invariant-loop-place l = AreIn l.store l.chosen.items
