use Rattle.std.proofs.Common.{ℕ, ◌<◌}
use Rattle.mz_machine_env.specs.Before.{HasRightParams}
use Rattle.mz_read_tests.proofs.machine.are_thms_right.Given as goal

abbrev pub invariant-thms : goal.invariant-thms
invariant-thms l = (k : ℕ) → k < l.i → HasRightParams l.mmb l.sorts k
