use Rattle.mz_layout_tables.proofs.RightWords.{right-words}
use Rattle.mz_layout_tables.proofs.word_laws.right_words_say_params.Goals as goal

pub returns : goal.returns
returns c = right-words
