use Rattle.std.proofs.Common.{◌∙◌, ap}
use Rattle.mz_math_coercions.specs.Firsts.{near_at}
use Rattle.mz_math_coercions.proofs.Cells.{near-more}
use Rattle.mz_math_coercions.proofs.hops.reach.Goals as goal

pub cells-preserved : goal.cells-preserved
cells-preserved c = λ j. ap (λ xs. near_at xs j) c.in_ok-push.ensures.items ∙ near-more c.cells.cells.items j ∙ c.cells.invariant j

pub returns-in_err-push-clause-same : goal.returns-in_err-push-clause-same
returns-in_err-push-clause-same c = λ j. ap (λ xs. near_at xs j) c.in_err-push.ensures.items ∙ c.cells.invariant j
