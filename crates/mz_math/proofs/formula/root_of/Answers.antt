use Rattle.std.proofs.Common.{length, subst, sym, arith}
use Rattle.mz_logic_theory.specs.Declaration.{signatures}
use Rattle.mz_math_theory.specs.Formula.{Reader}
use Rattle.mz_math_theory.specs.Coercions.{Reaches}
use Rattle.mz_math_theory.specs.CoercionAnswers.{HasLength}
use Rattle.mz_math_theory.proofs.Offered.{judged-no-sort, judged-no-path, judged-high}
use Rattle.mz_math.proofs.Found.{no-length, no-sort, some-length, some-sort}
use Rattle.mz_math.proofs.formula.root_of.Goals as goal

pub returns-in_default-found-clause-err : goal.returns-in_default-found-clause-err
returns-in_default-found-clause-err c = λ table scope is vs cs_is ctx_is.
    let r : Reader = record { env = c.args.env.now; table = table; scope = scope } in
    judged-no-sort r c.args.wanted is vs c.args.syntax.now c.args.coercions.now c.args.ctx.now cs_is ctx_is c.refused.result c.refused.ensures
    (no-sort (signatures c.args.env.now) c.args.coercions.now c.args.ctx.now c.args.syntax.now _ c.in-Ok.ensures.sort c.in_default-found.is)

pub returns-in_default-path-clause-err : goal.returns-in_default-path-clause-err
returns-in_default-path-clause-err c = λ table scope is vs cs_is ctx_is.
    let r : Reader = record { env = c.args.env.now; table = table; scope = scope } in
    let cs = c.args.coercions.now in
    let found = some-sort (signatures c.args.env.now) cs c.args.ctx.now c.args.syntax.now _ c.in-Ok.ensures.sort c.in-Some.sort c.in-Some.is in
    judged-no-path r c.args.wanted is vs c.args.syntax.now cs c.args.ctx.now cs_is ctx_is c.refused-in_default-path.result c.refused-in_default-path.ensures found.0 c.in-Some.sort found.1
    (λ reach. no-length cs c.in-Some.sort c.settled_sort-goal.result _ c.in-Ok-distance.ensures.many c.in_default-path.is (subst (λ i. Reaches cs (length cs) c.in-Some.sort i) (sym c.settled_sort-goal.ensures) reach))

pub returns-then-many-gt-MOST-clause-err : goal.returns-then-many-gt-MOST-clause-err
returns-then-many-gt-MOST-clause-err c = λ table scope is vs cs_is ctx_is.
    let r : Reader = record { env = c.args.env.now; table = table; scope = scope } in
    let cs = c.args.coercions.now in
    let found = some-sort (signatures c.args.env.now) cs c.args.ctx.now c.args.syntax.now _ c.in-Ok.ensures.sort c.in-Some.sort c.in-Some.is in
    let long = some-length cs c.in-Some.sort c.settled_sort-goal.result _ c.in-Ok-distance.ensures.many c.in-Some-path.many c.in-Some-path.is in
    judged-high r c.args.wanted is vs c.args.syntax.now cs c.args.ctx.now cs_is ctx_is c.refused-then-many-gt-MOST.result c.refused-then-many-gt-MOST.ensures found.0 c.in-Some.sort c.in-Some-path.many found.1
    (subst (λ i. HasLength cs (length cs) c.in-Some.sort i c.in-Some-path.many) c.settled_sort-goal.ensures long)
    (λ g q has. omega (arith, c.if-many-gt-MOST.true))

pub returns-clause-ok : goal.returns-clause-ok
returns-clause-ok c =
    let cs = c.args.coercions.now in (
      some-sort (signatures c.args.env.now) cs c.args.ctx.now c.args.syntax.now _ c.in-Ok.ensures.sort c.in-Some.sort c.in-Some.is,
      c.settled_sort-goal.ensures,
      c.in-Some-path.many,
      some-length cs c.in-Some.sort c.settled_sort-goal.result _ c.in-Ok-distance.ensures.many c.in-Some-path.many c.in-Some-path.is,
      omega (arith, c.if-many-gt-MOST.false),
    )
