use Rattle.mz_layout_tables.proofs.LengthBound.{file-bound}
use Rattle.mz_layout_tables.proofs.laws.normal_layout_is_short.Goals as goal

pub returns : goal.returns
returns c = file-bound
