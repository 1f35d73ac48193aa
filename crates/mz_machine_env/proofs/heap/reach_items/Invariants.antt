use Rattle.std.proofs.Common.{◌≡◌, ◌≤◌}
use Rattle.mz_machine_env.specs.OwnRow.{first_items}
use Rattle.mz_machine_env.proofs.heap.reach_items.Given as goal

abbrev pub invariant-ids : goal.invariant-ids
invariant-ids l = (l.items.items ≡ first_items l.i) × (l.i ≤ l.count)
