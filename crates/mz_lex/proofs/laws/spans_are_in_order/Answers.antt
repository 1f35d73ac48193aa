use Rattle.mz_lex.proofs.Lexing.{spans-in-order}
use Rattle.mz_lex.proofs.laws.spans_are_in_order.Goals as goal

pub returns : goal.returns
returns c = spans-in-order
