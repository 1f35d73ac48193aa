use Rattle.std.proofs.Common.{◌≡◌, ◌∙◌, sym, inl, inr, arith, length}
use Rattle.std.proofs.lemmas.Bool.{true≢false}
use Rattle.mz_lex.proofs.Strings.{whole-first, whole-more, whole-math_token}
use Rattle.mz_lex.proofs.tokens.Delimiters.token_end.Goals as goal

pub loop-to-init : goal.loop-to-init
loop-to-init c = whole-first c.args.self.now c.args.text.now c.args.from c.requires.within c.requires.solid

pub loop-to-preserved : goal.loop-to-preserved
loop-to-preserved c =
    whole-more c.args.self.now c.args.text.now c.args.from c.loop-to.to c.loop-to.invariant c.loop-to-test.true (λ ends. true≢false (sym (c.ends_at.ensures.1 ends) ∙ c.if-ends_at.false))

pub returns-then-ends_at : goal.returns-then-ends_at
returns-then-ends_at c = whole-math_token c.args.self.now c.args.text.now c.args.from c.loop-to.to c.loop-to.invariant (inr (c.ends_at.ensures.0 c.if-ends_at.true))

pub returns : goal.returns
returns c =
    let within = c.loop-to.invariant.within in
    let end : c.loop-to.to ≡ length c.args.text.now = omega (arith, within, c.loop-to-test.false) in
    whole-math_token c.args.self.now c.args.text.now c.args.from c.loop-to.to c.loop-to.invariant (inl end)
