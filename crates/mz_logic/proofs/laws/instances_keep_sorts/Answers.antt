use Rattle.mz_logic_theory.proofs.Offered.{sort_of_instance, fits_of_instances}
use Rattle.mz_logic.proofs.laws.instances_keep_sorts.Goals as goal

pub returns-clause-sorts : goal.returns-clause-sorts
returns-clause-sorts c = sort_of_instance

pub returns-clause-operands : goal.returns-clause-operands
returns-clause-operands c = fits_of_instances
