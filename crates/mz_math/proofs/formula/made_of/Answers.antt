use Rattle.std.proofs.Common.{length, subst, arith}
use Rattle.mz_math_theory.specs.Formula.{Reader}
use Rattle.mz_math_theory.specs.Coercions.{IsPath}
use Rattle.mz_math_theory.specs.CoercionAnswers.{HasLength}
use Rattle.mz_math_theory.proofs.Offered.{judged-high, judged-claim, same-sort}
use Rattle.mz_math.proofs.formula.made_of.Goals as goal

pub coerced-requires-clause-there : goal.coerced-requires-clause-there
coerced-requires-clause-there c = let ((e, has), goal_is, many, long, low) = c.requires.root in (e, c.args.root.sort, has)

pub wrap-requires-clause-there : goal.wrap-requires-clause-there
wrap-requires-clause-there c = let (has, goal_is, many, (path, on, same, short), low) = c.requires.root in (path, on, omega (arith, same, short))

pub returns-in-High : goal.returns-in-High
returns-in-High c = λ table scope is vs cs_is ctx_is.
    let r : Reader = record { env = c.args.env.now; table = table; scope = scope } in
    let cs = c.args.coercions.now in
    let ((f, has), goal_is, many, long, low) = c.requires.root in
    judged-high r c.args.wanted is vs c.args.syntax cs c.args.ctx.now cs_is ctx_is c.refused.result c.refused.ensures f c.args.root.sort many has
    (subst (λ i. HasLength cs (length cs) c.args.root.sort i many) goal_is long) (λ g q has. let high = c.in-High.ensures.built g q has in omega (arith, high, low))

pub returns-in-Ok : goal.returns-in-Ok
returns-in-Ok c = λ table scope is vs cs_is ctx_is.
    let r : Reader = record { env = c.args.env.now; table = table; scope = scope } in
    let cs = c.args.coercions.now in
    let ((f, has), goal_is, many, long, low) = c.requires.root in
    let built = c.in-Tree.ensures.built in
    let high = built.2 in
    let path = c.in-Ok.ensures.wrapped in
    let same = same-sort r c.args.wanted is vs c.args.syntax cs c.args.ctx.now cs_is ctx_is c.in-Tree.expr f c.args.root.sort built.0 built.1 has in
    judged-claim r c.args.wanted is vs c.args.syntax cs c.args.ctx.now cs_is ctx_is c.claimed.result c.in-Tree.expr c.args.root.sort many path.0 c.in-Ok.expr same
    (subst (λ i. HasLength cs (length cs) c.args.root.sort i many) goal_is long) (subst (λ i. IsPath cs c.args.root.sort path.0 i) goal_is path.1) path.2 (omega (arith, high, low)) c.claimed.ensures
