use Rattle.mz_lex.proofs.Lexing.{one-lexing, some-lexing}
use Rattle.mz_lex.proofs.laws.lexemes_are_one.Goals as goal

pub returns : goal.returns
returns c = record { at_most_one = one-lexing; at_least_one = some-lexing }
