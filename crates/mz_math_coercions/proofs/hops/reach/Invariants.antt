use Rattle.std.proofs.Common.{◌≡◌, ◌+◌, ◌-◌, ℕ, length}
use Rattle.mz_math_coercions.specs.Firsts.{near_at}
use Rattle.mz_math_coercions.proofs.hops.reach.Given as goal

abbrev pub invariant-cells : goal.invariant-cells
invariant-cells l = (j : ℕ) → near_at l.cells.items j ≡ near_at l.initial.cells.items j

abbrev pub decreases-cells : goal.decreases-cells
decreases-cells l = (l.i + 1) - length l.cells.items
