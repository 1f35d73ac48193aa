use Rattle.std.proofs.Common.{length, arith}
use Rattle.mz_machine_theory.specs.Profile.{plain}
use Rattle.mz_machine_theory.proofs.BodyRuns.{steps-le}
use Rattle.mz_machine_theory.proofs.ListSteps.{list-steps}
use Rattle.mz_machine_theory.proofs.laws.steps_bounded.Goals as goal

pub returns : goal.returns
returns c = record { bodies = λ gaps tables h n within bound at bytes st. steps-le (plain gaps) tables h n within bound (length bytes) at bytes st (omega arith); lists = list-steps }
