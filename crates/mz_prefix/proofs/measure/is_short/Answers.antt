use Rattle.std.proofs.Common.{◌∙◌}
use Rattle.mz_prefix.proofs.Measuring.{measured}
use Rattle.mz_prefix.proofs.measure.is_short.Goals as goal

pub returns-then-is_low : goal.returns-then-is_low
returns-then-is_low c = λ v. c.is_some.ensures ∙ measured v c.args.expr.now c.room_after.result (c.is_low.ensures.0 c.if-is_low.true) c.room_after.ensures
