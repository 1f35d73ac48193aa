use Rattle.std.proofs.Common.{◌∙◌, ap, take, length, arith}
use Rattle.mz_machine_env.proofs.FirstItems.{fewer-ids}
use Rattle.mz_machine_env.proofs.heap.FirstIds.first.Goals as goal

pub returns : goal.returns
returns c = ap (take c.args.count) (c.deref.ensures.value ∙ c.self.invariant) ∙ fewer-ids (length c.self.inside.ids.items) c.args.count (omega (arith, c.requires, c.self.view_is))
