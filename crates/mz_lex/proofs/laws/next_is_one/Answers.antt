use Rattle.mz_lex.proofs.Lexing.{one-next, one-lexeme}
use Rattle.mz_lex.proofs.SomeNext.{some-next}
use Rattle.mz_lex.proofs.laws.next_is_one.Goals as goal

pub returns : goal.returns
returns c = record { at_most_one = one-next; at_least_one = some-next; one_lexeme = one-lexeme }
