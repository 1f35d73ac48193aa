use Rattle.std.proofs.Common.{◌≡◌, ◌≤◌, ◌++◌, length, drop}
use Rattle.std.specs.Prelude.{reverse}
use Rattle.mz_unify.proofs.stop.push_operands.Given as goal

-- the last ones are there, the very last one first
abbrev pub invariant-operands : goal.invariant-operands
invariant-operands l = (l.at ≤ length l.operands) × (l.targets.items ≡ l.fn.targets.items ++ reverse (drop l.at l.operands))

abbrev pub decreases-operands : goal.decreases-operands
decreases-operands l = l.at
