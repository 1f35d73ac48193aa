use Rattle.mz_emit.proofs.Existing.{file_uses}
use Rattle.mz_emit.proofs.compile.files_use_what_proofs_use.Goals as goal

pub returns : goal.returns
returns c = file_uses c.words_are_read_back.ensures.fit c.words_are_read_back.ensures.results_fit c.stated_proofs_are_sound.ensures c.statements_can_be_words.ensures
