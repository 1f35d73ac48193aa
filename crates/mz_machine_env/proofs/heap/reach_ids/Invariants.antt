use Rattle.std.proofs.Common.{◌≡◌}
use Rattle.mz_machine_env.specs.OwnRow.{first_ids}
use Rattle.mz_machine_env.proofs.heap.reach_ids.Given as goal

abbrev pub invariant-ids : goal.invariant-ids
invariant-ids l = l.ids.items ≡ first_ids l.i
