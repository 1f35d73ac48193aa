use Rattle.std.proofs.Common.{◌≡◌, ◌+◌, ◌-◌, ℕ, length}
use Rattle.mz_math_coercions.specs.Groups.{up_of}
use Rattle.mz_math_coercions.proofs.groups.lengthen.Given as goal

abbrev pub invariant-ups : goal.invariant-ups
invariant-ups l = (s : ℕ) → up_of l.ups.items s ≡ up_of l.initial.ups.items s

abbrev pub decreases-ups : goal.decreases-ups
decreases-ups l = (l.sort + 1) - length l.ups.items
