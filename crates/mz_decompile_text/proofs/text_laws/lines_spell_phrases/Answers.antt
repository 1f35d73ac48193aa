use Rattle.mz_decompile_text.proofs.Written.{lines-spell}
use Rattle.mz_decompile_text.proofs.text_laws.lines_spell_phrases.Goals as goal

pub returns : goal.returns
returns c = lines-spell
