use Rattle.mz_machine_theory.proofs.Offered.{one-outcome}
use Rattle.mz_pmachine_theory.specs.NodeIdentity.{portable}
use Rattle.mz_pmachine_theory.proofs.laws.one_outcome.Goals as goal

pub returns : goal.returns
returns c = one-outcome portable
