use Rattle.std.proofs.Common.{◌∙◌, ◌∷◌, [], sym, ap}
use Rattle.mz_lex.specs.declared.token.TokenKind.TheVariants as kinds
use Rattle.mz_lex.specs.Kinds.{is_of_kind}
use Rattle.mz_lex.proofs.Blanks.{retold}
use Rattle.mz_lex.proofs.Names.{name-next}
use Rattle.mz_lex.proofs.OtherKinds.{symbol-next, number-next, no-lexeme, digit-no_name}
use Rattle.mz_lex.proofs.lexer.token_at.Goals as goal

pub returns-in-Some-clause-next : goal.returns-in-Some-clause-next
returns-in-Some-clause-next c =
    let name = c.in-Some.ensures in
    retold c.args.text.now c.args.from c.token.result _ c.token.ensures
    (name-next c.args.text.now c.args.from c.args.at c.in-Some.end name.run.later name.run.within c.requires.blank name.start name.run.all name.run.stops name.other)

pub returns-then-is_number_start-clause-next : goal.returns-then-is_number_start-clause-next
returns-then-is_number_start-clause-next c =
    let digit = sym c.is_number_start.ensures ∙ c.if-is_number_start.true in
    retold c.args.text.now c.args.from c.token-then-is_number_start.result _ c.token-then-is_number_start.ensures
    (number-next c.args.text.now c.args.from c.args.at c.run_end-end.result c.requires.within c.run_end-end.ensures.later c.run_end-end.ensures.within c.requires.blank
    digit (digit-no_name c.args.text.now c.args.at c.in_default.ensures digit) c.if-first-eq36.false c.run_end-end.ensures.all c.run_end-end.ensures.stops)

pub returns-then-first-eq48-clause-next : goal.returns-then-first-eq48-clause-next
returns-then-first-eq48-clause-next c =
    retold c.args.text.now c.args.from c.token-then-first-eq48.result _ c.token-then-first-eq48.ensures
    (symbol-next c.args.text.now c.args.from c.args.at kinds.Number c.requires.within c.requires.blank c.in_default.ensures
    (ap (λ b. is_of_kind kinds.Number (b ∷ [])) c.if-first-eq48.true) (sym c.is_number_start.ensures ∙ c.if-is_number_start.false) c.if-first-eq36.false)

pub returns-then-is_symbol-clause-next : goal.returns-then-is_symbol-clause-next
returns-then-is_symbol-clause-next c =
    retold c.args.text.now c.args.from c.token-then-is_symbol.result _ c.token-then-is_symbol.ensures
    (symbol-next c.args.text.now c.args.from c.args.at kinds.Symbol c.requires.within c.requires.blank c.in_default.ensures
    (sym c.is_symbol.ensures ∙ c.if-is_symbol.true) (sym c.is_number_start.ensures ∙ c.if-is_number_start.false) c.if-first-eq36.false)

pub returns-clause-fault : goal.returns-clause-fault
returns-clause-fault c =
    no-lexeme c.args.text.now c.args.from c.args.at c.requires.within c.requires.blank c.requires.start (sym c.is_allowed.ensures ∙ c.if-not-is_allowed.false) c.in_default.ensures
    c.if-first-eq36.false (sym c.is_number_start.ensures ∙ c.if-is_number_start.false) c.if-first-eq48.false (sym c.is_symbol.ensures ∙ c.if-is_symbol.false)
