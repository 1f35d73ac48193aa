use Rattle.std.proofs.Common.{◌∙◌, Some, ap, sym}
use Rattle.mz_math.proofs.permute.taken.Goals as goal

pub returns-in-Some-clause-kept : goal.returns-in-Some-clause-kept
returns-in-Some-clause-kept c = λ j other. c.taken_at.ensures.kept j (λ same. other (c.in-Some.is ∙ ap Some (sym same)))
