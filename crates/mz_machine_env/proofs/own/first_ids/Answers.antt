use Rattle.std.proofs.Common.{List, ◌∙◌, ◌++◌, ◌∷◌, [], ap}
use Rattle.mz_store.specs.declared.item.Id.{Id}
use Rattle.mz_machine_env.specs.OwnRow.{id_at}
use Rattle.mz_machine_env.proofs.OwnWords.{ids-next}
use Rattle.mz_machine_env.proofs.own.first_ids.Goals as goal

pub params-preserved : goal.params-preserved
params-preserved c =
    c.in_ok-push.ensures.items ∙ ap (λ (is : List Id). is ++ id_at c.params.i ∷ []) c.params.invariant ∙ ids-next c.params.i
