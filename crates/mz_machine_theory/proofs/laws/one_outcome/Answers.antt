use Rattle.mz_machine_theory.specs.Profile.{plain}
use Rattle.mz_machine_theory.proofs.Outcomes.{one-outcome}
use Rattle.mz_machine_theory.proofs.laws.one_outcome.Goals as goal

pub returns : goal.returns
returns c = λ gaps. one-outcome (plain gaps)
