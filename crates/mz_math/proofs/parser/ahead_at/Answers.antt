use Rattle.std.proofs.Common.{◌∙◌, ◌+◌, drop, sym}
use Rattle.mz_base.proofs.Offered.{nil-cons}
use Rattle.mz_math.proofs.Waiting.{joins-found}
use Rattle.mz_math.proofs.parser.ahead_at.Goals as goal

pub returns-then-level-eq-MAX-clause-next : goal.returns-then-level-eq-MAX-clause-next
returns-then-level-eq-MAX-clause-next c = λ other. absurd (other c.if-level-eq-MAX.true)

pub returns-in-None-clause-known : goal.returns-in-None-clause-known
returns-in-None-clause-known c = λ w rest is. absurd (nil-cons (sym c.in-None.ensures.token ∙ is))

pub returns-in-None-clause-next : goal.returns-in-None-clause-next
returns-in-None-clause-next c = λ other w rest is. absurd (nil-cons (sym c.in-None.ensures.token ∙ is))

pub returns-in-Some-clause-known : goal.returns-in-Some-clause-known
returns-in-Some-clause-known c = joins-found c.args.words.now (drop c.args.at c.args.tokens.now) c.in-Some.token.now (drop (c.args.at + 1) c.args.tokens.now) (λ k. k.now) c.infix.result c.infix.ensures c.in-Some.ensures.token

pub returns-in-Some-clause-next : goal.returns-in-Some-clause-next
returns-in-Some-clause-next c = λ other.
    joins-found c.args.words.now (drop c.args.at c.args.tokens.now) c.in-Some.token.now (drop (c.args.at + 1) c.args.tokens.now) (λ k. k.now) c.infix.result c.infix.ensures c.in-Some.ensures.token
