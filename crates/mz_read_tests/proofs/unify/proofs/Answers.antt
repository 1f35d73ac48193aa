use Rattle.mz_unify.proofs.Offered.{items-in-both}
use Rattle.mz_read_tests.proofs.unify.proofs.Goals as goal

pub loop-place-preserved : goal.loop-place-preserved
loop-place-preserved c = rw c.in-Ok.ensures.items (items-in-both c.args.store.now _ _ c.loop-place.invariant (c.in_ok-id.ensures, tt))
