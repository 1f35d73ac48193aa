use Rattle.mz_math_coercions.proofs.Walks.{none-chained}
use Rattle.mz_math_coercions.proofs.graph.Graph.new.Goals as goal

pub invariant_of-result : goal.invariant_of-result
invariant_of-result c = none-chained c.new.result.items c.new-2.result.items c.new-3.result.items c.new.ensures.items c.new-2.ensures.items c.new-3.ensures.items
