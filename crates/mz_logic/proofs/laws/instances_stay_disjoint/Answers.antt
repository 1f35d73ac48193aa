use Rattle.mz_logic_theory.proofs.Offered.{disjoint_instances}
use Rattle.mz_logic.proofs.laws.instances_stay_disjoint.Goals as goal

pub returns : goal.returns
returns c = disjoint_instances
