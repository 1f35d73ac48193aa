use Rattle.mz_math_coercions.proofs.coercions.lead_on.Goals as goal

pub lead-requires-clause-led : goal.lead-requires-clause-led
lead-requires-clause-led c = c.requires.led c.if-was_led.true
