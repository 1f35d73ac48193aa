use Rattle.mz_type.proofs.Limits.{each_is_limited}
use Rattle.mz_type.proofs.laws.limits_are_decided.Goals as goal

pub returns : goal.returns
returns c = each_is_limited
