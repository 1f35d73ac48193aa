use Rattle.mz_math_coercions.proofs.Walks.{IsFollowed}
use Rattle.mz_math_coercions.proofs.graph.Graph.follow.Given as goal

abbrev pub invariant-chain : goal.invariant-chain
invariant-chain l = IsFollowed l.self l.sort l.fn.reached l.reached l.next

abbrev pub decreases-chain : goal.decreases-chain
decreases-chain l = l.next
