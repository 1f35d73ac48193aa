use Rattle.std.proofs.Common.{ℕ, List, ◌∙◌, ◌++◌, ◌∷◌, [], ap, arith}
use Rattle.mz_store.specs.declared.item.Id.{Id}
use Rattle.mz_machine_env.specs.OwnRow.{first_ids, id_at}
use Rattle.mz_machine_env.proofs.FirstItems.{ids-are, ids-many}
use Rattle.mz_machine_env.proofs.OwnWords.{ids-next}
use Rattle.mz_machine_env.proofs.heap.reach_ids.Goals as goal

pub ids-preserved : goal.ids-preserved
ids-preserved c =
    c.in_ok-push.ensures.items ∙ ap (λ (is : List Id). is ++ c.in_ok-id.id ∷ []) c.ids.invariant
    ∙ ap (λ (n : ℕ). first_ids c.ids.i ++ id_at n ∷ []) c.in_ok-id.ensures.number ∙ ids-next c.ids.i

pub returns-in_err-id-clause-first : goal.returns-in_err-id-clause-first
returns-in_err-id-clause-first c = ids-are _ c.ids.i c.ids.invariant

pub returns-clause-first : goal.returns-clause-first
returns-clause-first c = ids-are _ c.ids.i c.ids.invariant

pub returns-clause-many : goal.returns-clause-many
returns-clause-many c = omega (arith, ids-many _ c.ids.i c.ids.invariant, c.ids-test.false)

pub returns-in_err-push-clause-first : goal.returns-in_err-push-clause-first
returns-in_err-push-clause-first c = ids-are _ c.ids.i (c.in_err-push.ensures.items ∙ c.ids.invariant)
