use Rattle.std.proofs.Common.{◌∙◌, ap}
use Rattle.mz_logic_theory.specs.Tree.{instances}
use Rattle.mz_store.specs.Sharing.{trees_of}
use Rattle.mz_emit_bodies.proofs.Owned.{shared_grown, all_reach, all_own, all_sorted_own}
use Rattle.mz_emit_bodies.proofs.shared.Shared.ids.Goals as goal

pub instance_ids-requires-clause-there : goal.instance_ids-requires-clause-there
instance_ids-requires-clause-there c = rw c.borrowed.ensures (all_reach _ _ _ _ c.deref.ensures.value c.requires.shared c.args.es.now c.requires.sorted)

pub instance_ids-requires-clause-sorted : goal.instance_ids-requires-clause-sorted
instance_ids-requires-clause-sorted c = rw c.borrowed.ensures (all_sorted_own _ _ _ _ c.deref.ensures.value c.requires.shared c.args.es.now c.requires.sorted)

pub returns-clause-trees : goal.returns-clause-trees
returns-clause-trees c =
    c.in_ok-ids.ensures.trees ∙ ap (instances (trees_of c.args.self.now.store c.deref.result.now)) c.borrowed.ensures ∙ all_own _ _ _ _ c.deref.ensures.value c.requires.shared c.args.es.now c.requires.sorted

pub returns-clause-shared : goal.returns-clause-shared
returns-clause-shared c = shared_grown _ _ _ _ c.requires.shared c.in_ok-ids.ensures.grows c.in_ok-ids.ensures.over
