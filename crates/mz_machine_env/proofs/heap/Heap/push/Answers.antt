use Rattle.std.proofs.Common.{◌∙◌, ap, take}
use Rattle.mz_machine_env.proofs.FirstItems.{still-first}
use Rattle.mz_machine_env.proofs.heap.Heap.push.Goals as goal

pub invariant_of-self-2 : goal.invariant_of-self-2
invariant_of-self-2 c = ap (take c.self.inside.params) c.in_ok-push.ensures.items ∙ still-first c.self.inside.items.items c.args.item c.self.inside.params c.self.invariant
