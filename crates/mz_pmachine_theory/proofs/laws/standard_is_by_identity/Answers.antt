use Rattle.mz_pmachine_theory.proofs.ByStandard.{standard-by-identity}
use Rattle.mz_pmachine_theory.proofs.laws.standard_is_by_identity.Goals as goal

pub returns : goal.returns
returns c = standard-by-identity
