use Rattle.std.proofs.Common.{◌∙◌, List, ℕ, ap, arith}
use Rattle.mz_math_coercions.specs.Groups.{up_of}
use Rattle.mz_math_coercions.proofs.Naming.{up-more}
use Rattle.mz_math_coercions.proofs.groups.lengthen.Goals as goal

pub ups-preserved : goal.ups-preserved
ups-preserved c = λ s. ap (λ (xs : List ℕ). up_of xs s) c.in_ok-push.ensures.items ∙ up-more c.ups.ups.items c.len-next.result (let e = c.len-next.ensures in omega (arith, e, c.ups.ups.ok.0)) s ∙ c.ups.invariant s

pub returns-in_err-push-clause-same : goal.returns-in_err-push-clause-same
returns-in_err-push-clause-same c = λ s. ap (λ (xs : List ℕ). up_of xs s) c.in_err-push.ensures.items ∙ c.ups.invariant s
