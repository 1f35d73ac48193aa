use Rattle.std.proofs.Common.{ℕ, ◌≡◌, ◌+◌, length, ◌-◌}
use Rattle.mz_emit_bodies.specs.Places.{place_of}
use Rattle.mz_emit_bodies.proofs.heap.reach.Given as goal

abbrev pub invariant-loop-places : goal.invariant-loop-places
invariant-loop-places l = (j : ℕ) → place_of l.places.items j ≡ place_of l.initial.places.items j

abbrev pub decreases-loop-places : goal.decreases-loop-places
decreases-loop-places l = (l.i + 1) - length l.places.items
