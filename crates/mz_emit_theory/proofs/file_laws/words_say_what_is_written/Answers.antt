use Rattle.mz_emit_theory.proofs.WordsSay.{words-say-params, words-say-signatures}
use Rattle.mz_emit_theory.proofs.file_laws.words_say_what_is_written.Goals as goal

pub returns : goal.returns
returns c = record { parameters = words-say-params; signatures = words-say-signatures }
