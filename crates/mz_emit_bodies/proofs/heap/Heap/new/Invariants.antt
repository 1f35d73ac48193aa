use Rattle.std.proofs.Common.{ℕ, ◌≡◌, ◌<◌, Some, None, length, ◌-◌, ◌≤◌}
use Rattle.mz_emit_bodies.specs.Places.{place_of}
use Rattle.mz_emit_bodies.proofs.heap.Heap.new.Given as goal

abbrev pub invariant-loop-i : goal.invariant-loop-i
invariant-loop-i l = (l.i ≤ l.params) × (length l.places.items ≡ l.i) × ((j : ℕ) → j < l.i → place_of l.places.items j ≡ Some j) × ((j : ℕ) → l.i ≤ j → place_of l.places.items j ≡ None)

abbrev pub decreases-loop-i : goal.decreases-loop-i
decreases-loop-i l = l.params - l.i
