use Rattle.std.proofs.Common.{◌-◌, ◌≡◌, ◌≤◌, ◌++◌, drop, length}
use Rattle.mz_math_theory.specs.Notation.{places}
use Rattle.mz_math_theory.specs.Listed.{slots}
use Rattle.mz_math.proofs.form.many_in_order.Given as goal

abbrev pub decreases-elements : goal.decreases-elements
decreases-elements l = length l.elements - l.at

abbrev pub invariant-elements : goal.invariant-elements
invariant-elements l = (places (slots 0 l.next) ++ places (drop l.at l.elements) ≡ places l.elements) × (l.next ≤ l.at)
