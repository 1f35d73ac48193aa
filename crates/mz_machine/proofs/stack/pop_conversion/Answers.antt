use Rattle.std.proofs.Common.{◌∙◌, ◌∷◌, [], ◌++◌, ap}
use Rattle.mz_store.specs.declared.item.Item.{Item as Kept}
use Rattle.mz_store.specs.declared.item.Item.TheVariants.{Conversion}
use Rattle.mz_machine_theory.specs.Premises.{pop_conversion}
use Rattle.mz_machine.proofs.Popping.{items-popped, popped}
use Rattle.mz_machine.proofs.stack.pop_conversion.Goals as goal

pub returns-in-Some-Conversion-clause-ids : goal.returns-in-Some-Conversion-clause-ids
returns-in-Some-Conversion-clause-ids c = let both = popped c.args.store.now c.args.stack.now.items c.pop.new.self.items (Conversion c.in-Some-Conversion.left c.in-Some-Conversion.right)
    (c.in-Some-Conversion.ensures.items ∙ ap (λ (x : Kept). c.pop.new.self.items ++ x ∷ []) c.in-Some-Conversion.field-0-is) c.requires in (both.0.0, both.0.1, both.1)

pub returns-in-Some-Conversion-clause-taken : goal.returns-in-Some-Conversion-clause-taken
returns-in-Some-Conversion-clause-taken c =
    ap pop_conversion (items-popped c.args.store.now c.args.stack.now.items c.pop.new.self.items (Conversion c.in-Some-Conversion.left c.in-Some-Conversion.right)
    (c.in-Some-Conversion.ensures.items ∙ ap (λ (x : Kept). c.pop.new.self.items ++ x ∷ []) c.in-Some-Conversion.field-0-is))
