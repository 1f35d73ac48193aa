use Rattle.std.proofs.Common.{◌∙◌, ◌∷◌, [], ◌++◌, ap}
use Rattle.mz_store.specs.declared.item.Item.{Item as Kept}
use Rattle.mz_store.specs.declared.item.Item.TheVariants.{Proof}
use Rattle.mz_machine_theory.specs.Premises.{pop_proof}
use Rattle.mz_machine.proofs.Popping.{items-popped, popped}
use Rattle.mz_machine.proofs.stack.pop_proof.Goals as goal

pub returns-in-Some-Proof-clause-ids : goal.returns-in-Some-Proof-clause-ids
returns-in-Some-Proof-clause-ids c = popped c.args.store.now c.args.stack.now.items c.pop.new.self.items (Proof c.in-Some-Proof.id)
    (c.in-Some-Proof.ensures.items ∙ ap (λ (x : Kept). c.pop.new.self.items ++ x ∷ []) c.in-Some-Proof.field-0-is) c.requires

pub returns-in-Some-Proof-clause-taken : goal.returns-in-Some-Proof-clause-taken
returns-in-Some-Proof-clause-taken c =
    ap pop_proof (items-popped c.args.store.now c.args.stack.now.items c.pop.new.self.items (Proof c.in-Some-Proof.id)
    (c.in-Some-Proof.ensures.items ∙ ap (λ (x : Kept). c.pop.new.self.items ++ x ∷ []) c.in-Some-Proof.field-0-is))
