use Rattle.mz_emit_theory.proofs.SpelledLists.{spelled-same}
use Rattle.mz_emit_theory.proofs.stream_laws.spelled_lists_are_same.Goals as goal

pub returns : goal.returns
returns c = spelled-same
