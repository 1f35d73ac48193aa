use Rattle.mz_decompile_text.proofs.Written.{lines-spell}
use Rattle.mz_decompile_text.proofs.Stated.{stated-texts}
use Rattle.mz_decompile_text.proofs.text_laws.stated_texts_are_read.Goals as goal

pub returns : goal.returns
returns c = stated-texts lines-spell
