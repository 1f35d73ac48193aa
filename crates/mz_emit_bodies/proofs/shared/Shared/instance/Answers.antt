use Rattle.std.proofs.Common.{sym}
use Rattle.mz_emit_bodies.proofs.Owned.{shared_grown}
use Rattle.mz_emit_bodies.proofs.shared.Shared.instance.Goals as goal

pub instance_id-requires-clause-there : goal.instance_id-requires-clause-there
instance_id-requires-clause-there c = rw c.borrowed.ensures c.requires.there

pub instance_id-requires-clause-sorted : goal.instance_id-requires-clause-sorted
instance_id-requires-clause-sorted c = rw c.borrowed.ensures c.requires.sorted

pub returns-clause-holds : goal.returns-clause-holds
returns-clause-holds c = rw (sym c.borrowed.ensures) c.in_ok-id.ensures.holds

pub returns-clause-shared : goal.returns-clause-shared
returns-clause-shared c = shared_grown _ _ _ _ c.requires.shared c.in_ok-id.ensures.grows c.in_ok-id.ensures.over
