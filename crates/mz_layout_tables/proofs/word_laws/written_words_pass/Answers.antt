use Rattle.mz_layout_tables.proofs.WordsPass.{params-pass, rows-pass}
use Rattle.mz_layout_tables.proofs.word_laws.written_words_pass.Goals as goal

pub returns : goal.returns
returns c = record { params = params-pass; rows = rows-pass }
