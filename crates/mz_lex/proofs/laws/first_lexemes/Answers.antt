use Rattle.mz_lex.proofs.Lexing.{one-more, ended, completed, begun, parted, comparable}
use Rattle.mz_lex.proofs.laws.first_lexemes.Goals as goal

pub returns : goal.returns
returns c = record { one_more = one-more; ended = ended; completed = completed; begun = begun; parted = parted; comparable = comparable }
