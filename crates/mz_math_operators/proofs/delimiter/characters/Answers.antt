use Rattle.std.proofs.Common.{sym, subst}
use Rattle.mz_lex.specs.declared.tokens.Delimiters.{Delimiters}
use Rattle.mz_lex.specs.Answers.{IsNext}
use Rattle.mz_lex.proofs.Offered.{SoFar, so-far-none, so-far-more, so-far-all, so-far-never}
use Rattle.mz_math_operators.proofs.delimiter.characters.Goals as goal

pub tokens-init : goal.tokens-init
tokens-init c = subst (SoFar c.args.text.now 0) (sym c.new-characters.ensures) (so-far-none c.args.text.now)

pub tokens-preserved : goal.tokens-preserved
tokens-preserved c =
    let next = subst (λ (d : Delimiters). IsNext d c.args.text.now c.tokens.at c.in-Some.token) c.new-whole.ensures c.in-Some.ensures in
    subst (SoFar c.args.text.now c.in-Some.token.to) (sym c.in-Ok.ensures.ok)
    (so-far-more c.args.text.now c.tokens.at c.tokens.characters c.in-Some.token c.tokens.invariant next c.if-token-ne1.false)

pub returns-then-token-ne1 : goal.returns-then-token-ne1
returns-then-token-ne1 c =
    let next = subst (λ (d : Delimiters). IsNext d c.args.text.now c.tokens.at c.in-Some.token) c.new-whole.ensures c.in-Some.ensures in
    so-far-never c.args.text.now c.tokens.at c.tokens.characters c.in-Some.token c.tokens.invariant next c.if-token-ne1.true

pub returns : goal.returns
returns c = so-far-all c.args.text.now c.tokens.at c.tokens.characters c.tokens.invariant c.in_default.ensures
