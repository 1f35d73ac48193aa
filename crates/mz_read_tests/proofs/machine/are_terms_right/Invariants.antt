use Rattle.std.proofs.Common.{ℕ, ◌<◌}
use Rattle.mz_machine_env.specs.Before.{HasRightWords}
use Rattle.mz_read_tests.proofs.machine.are_terms_right.Given as goal

abbrev pub invariant-terms : goal.invariant-terms
invariant-terms l = (k : ℕ) → k < l.t → HasRightWords l.mmb l.sorts k
