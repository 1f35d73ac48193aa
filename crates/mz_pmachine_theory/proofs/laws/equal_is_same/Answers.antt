use Rattle.mz_pmachine_theory.proofs.Equal.{equal-is-same}
use Rattle.mz_pmachine_theory.proofs.laws.equal_is_same.Goals as goal

pub returns : goal.returns
returns c = equal-is-same
