use Rattle.std.proofs.Common.{◌∙◌, ap}
use Rattle.mz_logic_theory.specs.Tree.{instance}
use Rattle.mz_store.specs.Sharing.{trees_of}
use Rattle.mz_emit_bodies.proofs.Owned.{shared_grown, one_reach, one_own, one_sorted}
use Rattle.mz_emit_bodies.proofs.shared.Shared.id.Goals as goal

pub instance_id-requires-clause-there : goal.instance_id-requires-clause-there
instance_id-requires-clause-there c = rw c.borrowed.ensures (one_reach _ _ _ _ c.deref.ensures.value c.requires.shared c.args.expr.now c.requires.sorted)

pub instance_id-requires-clause-sorted : goal.instance_id-requires-clause-sorted
instance_id-requires-clause-sorted c = rw c.borrowed.ensures (one_sorted _ _ _ _ c.deref.ensures.value c.requires.shared c.args.expr.now c.requires.sorted)

pub returns-clause-holds : goal.returns-clause-holds
returns-clause-holds c = (
  c.in_ok-id.ensures.holds.0,
  c.in_ok-id.ensures.holds.1 ∙ ap (instance (trees_of c.args.self.now.store c.deref.result.now)) c.borrowed.ensures ∙ one_own _ _ _ _ c.deref.ensures.value c.requires.shared c.args.expr.now c.requires.sorted,
)

pub returns-clause-shared : goal.returns-clause-shared
returns-clause-shared c = shared_grown _ _ _ _ c.requires.shared c.in_ok-id.ensures.grows c.in_ok-id.ensures.over
