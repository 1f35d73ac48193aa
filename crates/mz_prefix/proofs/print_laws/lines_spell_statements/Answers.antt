use Rattle.mz_prefix.proofs.Spelling.{lines-spell}
use Rattle.mz_prefix.proofs.print_laws.lines_spell_statements.Goals as goal

pub returns : goal.returns
returns c = lines-spell
