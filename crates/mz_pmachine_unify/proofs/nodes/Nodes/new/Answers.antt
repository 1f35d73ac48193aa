use Rattle.mz_store.specs.declared.item.DepsMode.TheVariants as of
use Rattle.mz_pmachine_unify.proofs.Adding.{keeps-nothing}
use Rattle.mz_pmachine_unify.proofs.nodes.Nodes.new.Goals as goal

pub invariant_of-result : goal.invariant_of-result
invariant_of-result c = keeps-nothing of.All c.new-2.result.items c.new.result.items c.new.ensures.items
