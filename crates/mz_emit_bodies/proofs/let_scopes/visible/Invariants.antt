use Rattle.std.proofs.Common.{ℕ, ◌≤◌, ◌<◌, length}
use Rattle.mz_emit_bodies.specs.Sight.{link_at, links, InSight}
use Rattle.mz_emit_bodies.proofs.let_scopes.visible.Given as goal

abbrev pub invariant-loop-at : goal.invariant-loop-at
invariant-loop-at l = (l.at < length (links l.cells)) × (l.number ≤ (link_at (links l.cells) l.at).depth)
    × ((d : ℕ) → InSight (links l.cells) l.at l.number d → InSight (links l.cells) l.innermost l.number d)

abbrev pub decreases-loop-at : goal.decreases-loop-at
decreases-loop-at l = l.at
