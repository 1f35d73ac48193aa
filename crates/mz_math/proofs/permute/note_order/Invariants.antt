use Rattle.std.proofs.Common.{◌-◌, ◌≡◌, ◌<◌, ◌≤◌, ℕ, None, get_or, length, drop}
use Rattle.mz_math_theory.specs.Notation.{places}
use Rattle.mz_math.specs.Arrange.{first_of}
use Rattle.mz_math.proofs.Picking.{first_with}
use Rattle.mz_math.proofs.permute.note_order.Given as goal

abbrev pub decreases-elements : goal.decreases-elements
decreases-elements l = length l.elements - l.at

-- what is noted, and else what is first among the elements that are left, is what is first among all
abbrev pub invariant-elements : goal.invariant-elements
invariant-elements l = (length l.order ≡ length l.initial.order) × (l.next ≤ l.at)
    × ((i : ℕ) → i < length l.order → first_with (get_or l.order i None) l.next (first_of (places (drop l.at l.elements)) i) ≡ first_of (places l.elements) i)
