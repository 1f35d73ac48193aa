use Rattle.mz_machine_theory.proofs.Offered.{bodies-checked}
use Rattle.mz_pmachine_theory.specs.NodeIdentity.{portable}
use Rattle.mz_pmachine_theory.proofs.laws.bodies_are_checked.Goals as goal

pub returns : goal.returns
returns c = bodies-checked portable
