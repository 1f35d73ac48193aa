use Rattle.std.proofs.Common.{ℕ, List, ◌∙◌, ◌++◌, ◌∷◌, [], ap, arith}
use Rattle.mz_store.specs.declared.item.Item.{Item as Kept}
use Rattle.mz_store.specs.declared.item.Item.TheVariants.{Expr}
use Rattle.mz_machine_env.specs.OwnRow.{first_items}
use Rattle.mz_machine_env.proofs.OwnWords.{items-next}
use Rattle.mz_machine_env.proofs.heap.reach_items.Goals as goal

pub ids-init : goal.ids-init
ids-init c = (c.requires.first, c.requires.order)

pub ids-preserved : goal.ids-preserved
ids-preserved c = (
  c.in_ok-push.ensures.items ∙ ap (λ (is : List Kept). is ++ Expr c.in_ok-id.id ∷ []) c.ids.invariant.0
      ∙ ap (λ (n : ℕ). first_items c.ids.i ++ Expr (record { 0 = n }) ∷ []) c.in_ok-id.ensures.number ∙ items-next c.ids.i,
  omega arith,
)

pub returns : goal.returns
returns c = c.ids.invariant.0 ∙ ap first_items (omega (arith, c.ids.invariant.1, c.ids-test.false))
