use Rattle.std.proofs.Common.{refl}
use Rattle.mz_spec_grammar.specs.Standing.{Begun}
use Rattle.mz_spec_grammar.proofs.Onward.{begins, read-by, stops-by, within-by}
use Rattle.mz_spec_grammar.proofs.statements.read_from.Goals as goal

pub returns-in-Ok-clause-read : goal.returns-in-Ok-clause-read
returns-in-Ok-clause-read c =
    let s : Begun = record { text = c.args.text.now; from = c.args.from; place = c.args.first.from } in
    read-by _ (c.statement-statement.ensures s (record { is = (refl, begins c.args.text.now c.args.from c.args.first c.first_rule.result c.requires.next c.first_rule.ensures) })) c.in-Ok.is refl refl

pub returns-clause-stops : goal.returns-clause-stops
returns-clause-stops c =
    let s : Begun = record { text = c.args.text.now; from = c.args.from; place = c.args.first.from } in
    stops-by (c.statement-statement.ensures s (record { is = (refl, begins c.args.text.now c.args.from c.args.first c.first_rule.result c.requires.next c.first_rule.ensures) })) c.in-Err.is

pub returns-in-Ok-clause-within : goal.returns-in-Ok-clause-within
returns-in-Ok-clause-within c =
    let s : Begun = record { text = c.args.text.now; from = c.args.from; place = c.args.first.from } in
    within-by (c.statement-statement.ensures s (record { is = (refl, begins c.args.text.now c.args.from c.args.first c.first_rule.result c.requires.next c.first_rule.ensures) })) c.in-Ok.is
