use Rattle.std.proofs.Common.{◌∙◌, ◌∷◌, [], ◌++◌, ap}
use Rattle.mz_store.specs.declared.item.Item.{Item as Kept}
use Rattle.mz_store.specs.declared.item.Item.TheVariants.{Obligation}
use Rattle.mz_machine_theory.specs.Premises.{pop_obligation}
use Rattle.mz_pmachine.proofs.Popping.{items-popped, popped}
use Rattle.mz_pmachine.proofs.stack.pop_obligation.Goals as goal

pub returns-in-Some-Obligation-clause-ids : goal.returns-in-Some-Obligation-clause-ids
returns-in-Some-Obligation-clause-ids c = let both = popped c.args.nodes.now c.args.stack.now.items c.pop.new.self.items (Obligation c.in-Some-Obligation.left c.in-Some-Obligation.right)
    (c.in-Some-Obligation.ensures.items ∙ ap (λ (x : Kept). c.pop.new.self.items ++ x ∷ []) c.in-Some-Obligation.field-0-is) c.requires in (both.0.0, both.0.1, both.1)

pub returns-in-Some-Obligation-clause-taken : goal.returns-in-Some-Obligation-clause-taken
returns-in-Some-Obligation-clause-taken c =
    ap pop_obligation (items-popped c.args.nodes.now c.args.stack.now.items c.pop.new.self.items (Obligation c.in-Some-Obligation.left c.in-Some-Obligation.right)
    (c.in-Some-Obligation.ensures.items ∙ ap (λ (x : Kept). c.pop.new.self.items ++ x ∷ []) c.in-Some-Obligation.field-0-is))
