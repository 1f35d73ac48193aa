use Rattle.std.proofs.Common.{◌∙◌, sym, refl}
use Rattle.mz_math_operators.proofs.ambiguity.all_group_with.Goals as goal

pub returns-in-None : goal.returns-in-None
returns-in-None c = (λ t l has same. absurd (c.in-None.ensures l has same), λ all. refl)

pub returns-in-Some : goal.returns-in-Some
returns-in-Some c =
    let (k, in-k, level, is) = c.in-Some.ensures in (
      λ t l has same. c.requires l k has in-k (same ∙ sym level) ∙ is ∙ sym (c.groups.ensures.0 t),
      λ all. c.groups.ensures.1 (sym (all k in-k level) ∙ is),
    )
