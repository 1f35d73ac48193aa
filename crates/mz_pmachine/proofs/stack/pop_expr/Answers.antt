use Rattle.std.proofs.Common.{◌∙◌, ◌∷◌, [], ◌++◌, ap}
use Rattle.mz_store.specs.declared.item.Item.{Item as Kept}
use Rattle.mz_store.specs.declared.item.Item.TheVariants.{Expr}
use Rattle.mz_machine_theory.specs.Premises.{pop_expr}
use Rattle.mz_pmachine.proofs.Popping.{items-popped, popped}
use Rattle.mz_pmachine.proofs.stack.pop_expr.Goals as goal

pub returns-in-Some-Expr-clause-ids : goal.returns-in-Some-Expr-clause-ids
returns-in-Some-Expr-clause-ids c = popped c.args.nodes.now c.args.stack.now.items c.pop.new.self.items (Expr c.in-Some-Expr.id)
    (c.in-Some-Expr.ensures.items ∙ ap (λ (x : Kept). c.pop.new.self.items ++ x ∷ []) c.in-Some-Expr.field-0-is) c.requires

pub returns-in-Some-Expr-clause-taken : goal.returns-in-Some-Expr-clause-taken
returns-in-Some-Expr-clause-taken c =
    ap pop_expr (items-popped c.args.nodes.now c.args.stack.now.items c.pop.new.self.items (Expr c.in-Some-Expr.id)
    (c.in-Some-Expr.ensures.items ∙ ap (λ (x : Kept). c.pop.new.self.items ++ x ∷ []) c.in-Some-Expr.field-0-is))
