use Rattle.std.proofs.Common.{[]}
use Rattle.mz_lex.proofs.Strings.{next-first, only-math_token, two-math_tokens}
use Rattle.mz_lex.proofs.tokens.Delimiters.only_token.Goals as goal

pub returns-in-None-next_token-clause-only : goal.returns-in-None-next_token-clause-only
returns-in-None-next_token-clause-only c = (
  next-first c.args.self.now c.args.text.now 0 c.in-Some.piece [] c.in-Some.ensures c.in-None-next_token.ensures,
  λ p all. (only-math_token c.args.self.now c.args.text.now c.in-Some.piece p c.in-Some.ensures all).0,
)

pub returns-in-Some-next_token-clause-only : goal.returns-in-Some-next_token-clause-only
returns-in-Some-next_token-clause-only c = λ p all.
    two-math_tokens c.args.self.now c.args.text.now c.in-Some.piece c.in-Some-next_token.field-0 c.in-Some-next_token.ensures (only-math_token c.args.self.now c.args.text.now c.in-Some.piece p c.in-Some.ensures all).1
