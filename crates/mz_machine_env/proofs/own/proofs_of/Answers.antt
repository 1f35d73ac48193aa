use Rattle.std.proofs.Common.{◌∙◌, ◌∷◌, ◌++◌, [], ap, List, get_or}
use Rattle.std.proofs.lemmas.Option.{slice_get-get_or}
use Rattle.mz_store.specs.declared.item.Id.{Id}
use Rattle.mz_store.specs.declared.item.Item.{Item as Kept}
use Rattle.mz_store.specs.declared.item.Item.TheVariants.{Proof}
use Rattle.mz_machine_env.proofs.OwnWords.{taken-next, taken-all}
use Rattle.mz_machine_env.proofs.own.proofs_of.Goals as goal

pub hyps-preserved : goal.hyps-preserved
hyps-preserved c =
    let d : Id = record { 0 = 0 } in
    let at = slice_get-get_or c.args.hyps.now c.hyps.hyp-index d c.hyps-test.true in
    c.in_ok-push.ensures.items
    ∙ (ap (λ (is : List Kept). is ++ Proof (get_or c.args.hyps.now c.hyps.hyp-index d) ∷ []) c.hyps.invariant ∙ taken-next c.args.hyps.now c.hyps.hyp-index _ at)

pub returns : goal.returns
returns c = c.hyps.invariant ∙ taken-all c.args.hyps.now c.hyps.hyp-index c.hyps-test.false
