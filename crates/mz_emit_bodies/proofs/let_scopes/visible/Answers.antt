use Rattle.std.proofs.Common.{arith}
use Rattle.mz_emit_bodies.specs.Sight.{here}
use Rattle.mz_emit_bodies.proofs.let_scopes.visible.Goals as goal

pub returns-clause-sight : goal.returns-clause-sight
returns-clause-sight c = c.loop-at.invariant.2 _ (here _ _ (omega (arith, c.loop-at-test.false, c.loop-at.invariant.1, c.depth_at.ensures)))
