use Rattle.std.proofs.Common.{Ok, sym, subst}
use Rattle.mz_lex.specs.Lexemes.{ComesNext, IsNext}
use Rattle.mz_spec_theory.specs.Reading.{StopsFrom}
use Rattle.mz_spec_grammar.proofs.Onward.{stop-fault}
use Rattle.mz_spec_grammar.proofs.statements.read_statement.Goals as goal

pub returns-in-Err-clause-stops : goal.returns-in-Err-clause-stops
returns-in-Err-clause-stops c =
    subst (StopsFrom c.args.text.now c.args.from) (sym c.no_lexeme.ensures) (stop-fault c.args.text.now c.args.from c.in-Err.fault c.in-Err.ensures.next)

pub read_from-requires-clause-next : goal.read_from-requires-clause-next
read_from-requires-clause-next c =
    subst (IsNext c.args.text.now c.args.from) (sym c.new-first.ensures) (
    subst (λ o. ComesNext c.args.text.now c.args.from (Ok o)) c.in-Ok-Some.field-0-is c.in-Ok-Some.ensures.next)
