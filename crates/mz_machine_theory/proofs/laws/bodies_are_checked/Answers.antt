use Rattle.mz_machine_theory.specs.Profile.{plain}
use Rattle.mz_machine_theory.proofs.Outcomes.{bodies-checked}
use Rattle.mz_machine_theory.proofs.laws.bodies_are_checked.Goals as goal

pub returns : goal.returns
returns c = λ gaps. bodies-checked (plain gaps)
