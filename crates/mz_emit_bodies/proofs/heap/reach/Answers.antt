use Rattle.std.proofs.Common.{arith}
use Rattle.std.proofs.lemmas.Grind.{common_steps}
use Rattle.mz_emit_bodies.proofs.NoMore.{no_more}
use Rattle.mz_emit_bodies.proofs.heap.reach.Goals as goal

pub loop-places-preserved : goal.loop-places-preserved
loop-places-preserved c = λ j. grind (arith, common_steps, no_more, c.in_ok-push.ensures.items, c.loop-places.invariant j)
