use Rattle.std.proofs.Common.{◌∙◌, inl, sym, subst}
use Rattle.std.proofs.lemmas.Bool.{true≢false}
use Rattle.mz_math_theory.specs.Clear.{LedBy}
use Rattle.mz_math_operators.proofs.notations.NotationList.led_by.Goals as goal

pub returns-in-None : goal.returns-in-None
returns-in-None c = λ h. c.in-None.ensures h.0 h.1 (inl h.2)

pub returns-else-is_led_by : goal.returns-else-is_led_by
returns-else-is_led_by c = λ h. true≢false (sym (c.is_led_by.ensures.1 (subst (λ l. LedBy l c.args.token.now) (c.in-Some.ensures.1 h.0 h.1 (inl h.2)) h.2)) ∙ c.if-is_led_by.false)
