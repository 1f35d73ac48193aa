use Rattle.std.proofs.Common.{◌≡◌, ◌+◌, ◌-◌, ℕ, get_or, length}
use Rattle.mz_math_coercions.proofs.graph.lengthen.Given as goal

abbrev pub invariant-links : goal.invariant-links
invariant-links l = (i : ℕ) → get_or l.links.items i 0 ≡ get_or l.initial.links.items i 0

abbrev pub decreases-links : goal.decreases-links
decreases-links l = (l.place + 1) - length l.links.items
