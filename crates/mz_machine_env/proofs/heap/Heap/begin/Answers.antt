use Rattle.std.proofs.Common.{◌∙◌}
use Rattle.mz_machine_env.proofs.FirstItems.{all-first, fewer-items}
use Rattle.mz_machine_env.proofs.heap.Heap.begin.Goals as goal

pub reach_items-requires-clause-first : goal.reach_items-requires-clause-first
reach_items-requires-clause-first c =
    c.truncate.ensures.items ∙ fewer-items c.self.inside.items.items c.self.inside.params c.lesser-there.result c.self.invariant c.lesser-there.ensures.first

pub invariant_of-self-2 : goal.invariant_of-self-2
invariant_of-self-2 c = all-first c.reach_items.new.items.items c.args.params c.in_ok-reach_items.ensures
