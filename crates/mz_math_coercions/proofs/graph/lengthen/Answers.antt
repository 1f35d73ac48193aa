use Rattle.std.proofs.Common.{◌∙◌, List, ℕ, ap, get_or}
use Rattle.mz_math_coercions.proofs.Walks.{zero-more}
use Rattle.mz_math_coercions.proofs.graph.lengthen.Goals as goal

pub links-preserved : goal.links-preserved
links-preserved c = λ i. ap (λ (xs : List ℕ). get_or xs i 0) c.in_ok-push.ensures.items ∙ zero-more c.links.links.items i ∙ c.links.invariant i

pub returns-in_err-push-clause-same : goal.returns-in_err-push-clause-same
returns-in_err-push-clause-same c = λ i. ap (λ (xs : List ℕ). get_or xs i 0) c.in_err-push.ensures.items ∙ c.links.invariant i
