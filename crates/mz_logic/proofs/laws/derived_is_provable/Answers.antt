use Rattle.mz_logic_theory.proofs.Offered.{derived_has_provable}
use Rattle.mz_logic.proofs.laws.derived_is_provable.Goals as goal

pub returns : goal.returns
returns c = derived_has_provable
