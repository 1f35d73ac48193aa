use Rattle.std.proofs.Common.{Some}
use Rattle.mz_spec_grammar.proofs.steps.lexeme_at.Goals as goal

pub returns-in-Err-clause-next : goal.returns-in-Err-clause-next
returns-in-Err-clause-next c = (Some c.in-Err.fault, c.in-Err.ensures.next, c.no_lexeme.ensures)
