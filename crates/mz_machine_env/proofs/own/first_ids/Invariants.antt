use Rattle.std.proofs.Common.{◌≡◌}
use Rattle.mz_machine_env.specs.OwnRow.{first_ids}
use Rattle.mz_machine_env.proofs.own.first_ids.Given as goal

abbrev pub invariant-params : goal.invariant-params
invariant-params l = l.ids.items ≡ first_ids l.i
