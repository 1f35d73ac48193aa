use Rattle.mz_unify.proofs.Offered.{are-in-both}
use Rattle.mz_read_tests.proofs.unify.chosen.Goals as goal

pub loop-place-preserved : goal.loop-place-preserved
loop-place-preserved c = rw c.in-Ok.ensures.items (are-in-both c.args.store.now _ _ c.loop-place.invariant (c.in_ok-id.ensures, tt))
