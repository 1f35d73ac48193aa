use Rattle.std.proofs.Common.{[], ap, not}
use Rattle.std.proofs.lemmas.Bool.{false≢true}
use Rattle.std.proofs.lemmas.Result.{IfOk-weaker}
use Rattle.mz_math_theory.proofs.Offered.{fits-regular, fits-other, fits-bound}
use Rattle.mz_math.proofs.elaborate.sort_fits.Goals as goal

pub returns-then-not-param-clause-fit : goal.returns-then-not-param-clause-fit
returns-then-not-param-clause-fit c = λ sigs ctx e f one stands bound.
    fits-regular sigs c.args.coercions.now ctx one e f c.args.sort c.args.param.now _ stands c.if-not-param.true (λ _. ([], c.if-sort-param.true), λ _. ap not c.if-not-param.true)

pub returns-else-not-param-clause-fit : goal.returns-else-not-param-clause-fit
returns-else-not-param-clause-fit c = λ sigs ctx e f one stands bound.
    fits-bound sigs c.args.coercions.now ctx one e f c.args.sort c.args.param.now c.args.is_bound stands c.if-not-param.false c.if-sort-param.true bound

pub returns-then-param-clause-fit : goal.returns-then-param-clause-fit
returns-then-param-clause-fit c = λ sigs ctx e f one stands bound. (
  λ no. absurd (false≢true no),
  λ h. absurd (fits-other sigs c.args.coercions.now ctx one e f c.args.sort c.args.param.now stands c.if-param.true c.if-sort-param.false h),
)

pub returns-clause-fit : goal.returns-clause-fit
returns-clause-fit c = λ sigs ctx e f one stands bound.
    IfOk-weaker c.reaches.result _ _ (λ fit is. fits-regular sigs c.args.coercions.now ctx one e f c.args.sort c.args.param.now fit stands c.if-param.false is) c.reaches.ensures.there
