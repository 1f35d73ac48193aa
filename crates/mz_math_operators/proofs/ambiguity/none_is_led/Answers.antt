use Rattle.std.proofs.Common.{refl, subst}
use Rattle.std.proofs.lemmas.Bool.{false≢true}
use Rattle.mz_math_theory.specs.Clear.{LedBy}
use Rattle.mz_math_theory.proofs.Offered.{led-one}
use Rattle.mz_math_operators.proofs.ambiguity.none_is_led.Goals as goal

pub returns-in-None : goal.returns-in-None
returns-in-None c = (λ t l w has by_k by_l. c.in-None.ensures w by_k, λ all. refl)

pub returns-in-None-led_by : goal.returns-in-None-led_by
returns-in-None-led_by c = (
  λ t l w has by_k by_l. c.in-None-led_by.ensures (l, has, subst (LedBy l) (led-one c.args.notation.now w c.in-Some.word.now by_k c.in-Some.ensures) by_l),
  λ all. refl,
)

pub returns-in-Some-led_by : goal.returns-in-Some-led_by
returns-in-Some-led_by c = (
  λ t. absurd (false≢true t),
  λ all. absurd (all c.in-Some-led_by.field-0.now c.in-Some.word.now c.in-Some-led_by.ensures.0 c.in-Some.ensures c.in-Some-led_by.ensures.1),
)
