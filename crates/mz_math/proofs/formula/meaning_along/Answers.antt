use Rattle.std.proofs.Common.{subst}
use Rattle.mz_math.specs.Claims.{IsJudgedOver}
use Rattle.mz_math.proofs.formula.meaning_along.Goals as goal

pub returns-in-Err : goal.returns-in-Err
returns-in-Err c = subst (λ t. IsJudgedOver c.args.env.now c.args.coercions.now c.args.ctx.now c.args.wanted t c.in-Err.answer) c.borrowed.ensures c.in-Err.ensures.err
