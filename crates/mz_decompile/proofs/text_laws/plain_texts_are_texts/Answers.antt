use Rattle.mz_spec_theory.proofs.Offered.{one-reading}
use Rattle.mz_binary_theory.proofs.Offered.{good-spelled}
use Rattle.mz_decompile.proofs.WholeTexts.{plain-texts}
use Rattle.mz_decompile.proofs.text_laws.plain_texts_are_texts.Goals as goal

pub returns : goal.returns
returns c = plain-texts c.made_proofs_prove.ensures c.stated_texts_are_read.ensures one-reading good-spelled
