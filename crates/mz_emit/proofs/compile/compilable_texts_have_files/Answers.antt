use Rattle.mz_emit.proofs.Existing.{has_file}
use Rattle.mz_emit.proofs.compile.compilable_texts_have_files.Goals as goal

pub returns : goal.returns
returns c = has_file c.words_are_read_back.ensures.fit c.words_are_read_back.ensures.results_fit c.stated_proofs_are_sound.ensures c.statements_can_be_words.ensures
