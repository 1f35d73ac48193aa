use Rattle.mz_sexpr.proofs.Readings.{is_read_or_refused}
use Rattle.mz_sexpr.proofs.laws.reading_or_refusal.Goals as goal

pub returns : goal.returns
returns c = is_read_or_refused
