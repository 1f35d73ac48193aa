use Rattle.mz_sexpr.proofs.Readings.{one_reading_only}
use Rattle.mz_sexpr.proofs.laws.one_reading.Goals as goal

pub returns : goal.returns
returns c = one_reading_only
