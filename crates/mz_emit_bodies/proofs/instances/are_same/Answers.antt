use Rattle.mz_emit_bodies.proofs.Kept.{ids-decide}
use Rattle.mz_emit_bodies.proofs.instances.are_same.Goals as goal

pub returns : goal.returns
returns c = rw c.eq.ensures (ids-decide c.args.a.now c.args.b.now)
