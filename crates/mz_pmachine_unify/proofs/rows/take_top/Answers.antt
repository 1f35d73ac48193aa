use Rattle.mz_pmachine_unify.proofs.StoredIds.{popped}
use Rattle.mz_pmachine_unify.proofs.rows.take_top.Goals as goal

pub returns-clause-ids : goal.returns-clause-ids
returns-clause-ids c = popped c.args.nodes.now c.args.targets.now.items c.pop.new.self.items c.pop.result c.pop.ensures.items c.requires
