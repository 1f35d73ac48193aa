use Rattle.std.proofs.Common.{true≢false, sym, ◌∙◌}
use Rattle.mz_type_rules.proofs.binders.is_param.Goals as goal

pub returns-else-param : goal.returns-else-param
returns-else-param c = (
  λ t. (λ is. absurd (true≢false (sym is ∙ c.if-param.false)), λ _. c.are_bound_before.ensures.0 t),
  λ h. c.are_bound_before.ensures.1 (h.1 c.if-param.false),
)
