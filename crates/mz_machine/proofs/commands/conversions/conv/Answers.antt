use Rattle.std.proofs.Common.{◌∙◌, ◌∷◌, Ok, sym, ap}
use Rattle.std.proofs.lemmas.Result.{err_from_is_err_and}
use Rattle.mz_machine_theory.specs.Profile.{strict}
use Rattle.mz_unify.specs.Stored.{item_at, items_at}
use Rattle.mz_unify.proofs.Offered.{items-push}
use Rattle.mz_store.specs.declared.item.Item.TheVariants.{Obligation, Proof}
use Rattle.mz_machine_theory.specs.Premises.{pop_proof}
use Rattle.mz_machine.proofs.ConversionRows.{conv-row, conv-unclaimed, conv-unproved}
use Rattle.mz_machine.proofs.Converting.{put_in}
use Rattle.mz_machine.proofs.commands.conversions.conv.Goals as goal

pub returns-in_err-proved-clause-row : goal.returns-in_err-proved-clause-row
returns-in_err-proved-clause-row c tables at n st is =
    let p = err_from_is_err_and c.from_residual.result c.from_residual.ensures.1 in
    rw (p.1, p.2) (conv-unproved strict tables at n st _ (ap pop_proof is ∙ c.in_err-proved.ensures.taken))

pub returns-in_err-proved-clause-ids : goal.returns-in_err-proved-clause-ids
returns-in_err-proved-clause-ids c = rw (err_from_is_err_and c.from_residual.result c.from_residual.ensures.1).1 tt

pub returns-in_err-claimed-clause-row : goal.returns-in_err-claimed-clause-row
returns-in_err-claimed-clause-row c tables at n st is =
    let p = err_from_is_err_and c.from_residual-in_err-claimed.result c.from_residual-in_err-claimed.ensures.1 in
    rw (p.1, p.2) (conv-unclaimed strict tables at n st _ _ (ap pop_proof is ∙ c.in_ok-proved.ensures.taken) _ c.in_err-claimed.ensures.taken)

pub returns-in_err-claimed-clause-ids : goal.returns-in_err-claimed-clause-ids
returns-in_err-claimed-clause-ids c = rw (err_from_is_err_and c.from_residual-in_err-claimed.result c.from_residual-in_err-claimed.ensures.1).1 tt

pub returns-clause-ids : goal.returns-clause-ids
returns-clause-ids c =
    let ids = c.in_ok-claimed.ensures.ids in
    put_in c.args.store.now _ _ (Obligation c.in_ok-claimed.claimed c.in_ok-proved.proved) c.put_back-2.ensures.items (ids.0, c.in_ok-proved.ensures.ids.0)
    (put_in c.args.store.now _ _ (Proof c.in_ok-claimed.claimed) c.put_back.ensures.items ids.0 ids.1)

pub returns-clause-row : goal.returns-clause-row
returns-clause-row c tables at n st is =
    let s = c.args.store.now in
    let owed = Obligation c.in_ok-claimed.claimed c.in_ok-proved.proved in
    let below = ap (items_at s) c.put_back.ensures.items ∙ items-push s c.pop_expr.new.stack.items (Proof c.in_ok-claimed.claimed) in
    let stack = ap (items_at s) c.put_back-2.ensures.items ∙ items-push s c.put_back.new.items.items owed ∙ ap (λ xs. item_at s owed ∷ xs) below in
    conv-row strict tables at n st _ _ (ap pop_proof is ∙ c.in_ok-proved.ensures.taken) _ _ c.in_ok-claimed.ensures.taken ∙ ap (λ xs. Ok (record st { stack = xs })) (sym stack)
