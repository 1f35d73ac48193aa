use Rattle.mz_asm.proofs.LineReading.{line-unique}
use Rattle.mz_asm.proofs.laws.lines_are_one.Goals as goal

pub returns : goal.returns
returns c = line-unique
