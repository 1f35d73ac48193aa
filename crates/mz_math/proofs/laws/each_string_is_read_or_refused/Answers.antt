use Rattle.mz_math_theory.proofs.Offered.{some-reading}
use Rattle.mz_math.proofs.laws.each_string_is_read_or_refused.Goals as goal

pub returns : goal.returns
returns c = some-reading
