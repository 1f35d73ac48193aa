use Rattle.std.proofs.Common.{◌-◌, ◌^◌}
use Rattle.mz_math_coercions.proofs.Walks.{IsWalked}
use Rattle.mz_math_coercions.proofs.graph.Graph.walk.Given as goal

abbrev pub invariant-steps : goal.invariant-steps
invariant-steps l = IsWalked l.self l.fn.reached l.reached l.i

-- a list has fewer elements
abbrev pub decreases-steps : goal.decreases-steps
decreases-steps l = 2 ^ 63 - l.i
