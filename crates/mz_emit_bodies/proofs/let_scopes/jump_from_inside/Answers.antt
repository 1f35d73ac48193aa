use Rattle.std.proofs.Common.{refl}
use Rattle.mz_emit_bodies.proofs.Ways.{two_jumps}
use Rattle.mz_emit_bodies.specs.Sight.{here}
use Rattle.mz_emit_bodies.proofs.let_scopes.jump_from_inside.Goals as goal

pub returns-then-from-clause-way : goal.returns-then-from-clause-way
returns-then-from-clause-way c = two_jumps _ _ _ _ c.requires.right c.requires.there c.jump_at-first.ensures c.jump_at-second.ensures

pub returns-else-from-clause-way : goal.returns-else-from-clause-way
returns-else-from-clause-way c = here _ _ refl
