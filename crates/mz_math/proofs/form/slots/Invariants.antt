use Rattle.std.proofs.Common.{◌-◌, ◌≡◌, ◌≤◌, ◌+◌, length, drop}
use Rattle.mz_math_theory.specs.Notation.{places}
use Rattle.mz_math.proofs.form.slots.Given as goal

abbrev pub decreases-elements : goal.decreases-elements
decreases-elements l = length l.elements - l.at

abbrev pub invariant-elements : goal.invariant-elements
invariant-elements l = (l.many + length (places (drop l.at l.elements)) ≡ length (places l.elements)) × (l.many ≤ l.at)
