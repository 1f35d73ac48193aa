use Rattle.mz_logic_theory.proofs.Dependences.{alike-pushed}
use Rattle.mz_logic_theory.proofs.binder.Binders.push.Goals as goal

pub invariant_of-self : goal.invariant_of-self
invariant_of-self c = alike-pushed c.self.inside.items.items _ c.args.binder c.self.inside.alike.items c.push_tightly.result c.push_tightly.ensures.ok c.push_tightly.ensures.same c.self.invariant
