use Rattle.mz_store.proofs.SameIds.{ids-decide}
use Rattle.mz_store.proofs.buckets.are_same.Goals as goal

pub returns : goal.returns
returns c = rw c.eq.ensures (ids-decide c.args.a.now c.args.b.now)
