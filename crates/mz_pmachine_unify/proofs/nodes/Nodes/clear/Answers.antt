use Rattle.mz_pmachine_unify.proofs.Adding.{keeps-nothing}
use Rattle.mz_pmachine_unify.proofs.nodes.Nodes.clear.Goals as goal

pub invariant_of-self : goal.invariant_of-self
invariant_of-self c = keeps-nothing c.args.mode c.clear-2.new.self.items c.clear.new.self.items c.clear.ensures.items
