use Rattle.std.proofs.Common.{◌∙◌, Ok, sym, ap}
use Rattle.std.proofs.lemmas.Result.{err_from_is_err_and}
use Rattle.mz_machine_theory.specs.Profile.{strict}
use Rattle.mz_unify.specs.Stored.{items_at}
use Rattle.mz_unify.proofs.Offered.{items-push}
use Rattle.mz_store.specs.declared.item.Item.TheVariants.{Obligation}
use Rattle.mz_machine_theory.specs.Premises.{pop_obligation}
use Rattle.mz_machine.proofs.ConversionRows.{symm-row, symm-unowed}
use Rattle.mz_machine.proofs.Converting.{put_in}
use Rattle.mz_machine.proofs.commands.conversions.symm.Goals as goal

pub returns-in_err-left-clause-row : goal.returns-in_err-left-clause-row
returns-in_err-left-clause-row c tables at n st is =
    let p = err_from_is_err_and c.from_residual.result c.from_residual.ensures.1 in
    rw (p.1, p.2) (symm-unowed strict tables at n st _ (ap pop_obligation is ∙ c.in_err-left.ensures.taken))

pub returns-in_err-left-clause-ids : goal.returns-in_err-left-clause-ids
returns-in_err-left-clause-ids c = rw (err_from_is_err_and c.from_residual.result c.from_residual.ensures.1).1 tt

pub returns-clause-ids : goal.returns-clause-ids
returns-clause-ids c =
    let ids = c.in_ok-left.ensures.ids in
    put_in c.args.store.now _ _ (Obligation c.in_ok-left.right c.in_ok-left.left) c.put_back.ensures.items (ids.1, ids.0) ids.2

pub returns-clause-row : goal.returns-clause-row
returns-clause-row c tables at n st is =
    let s = c.args.store.now in
    let stack = ap (items_at s) c.put_back.ensures.items ∙ items-push s c.pop_obligation.new.stack.items (Obligation c.in_ok-left.right c.in_ok-left.left) in
    symm-row strict tables at n st _ _ _ (ap pop_obligation is ∙ c.in_ok-left.ensures.taken) ∙ ap (λ xs. Ok (record st { stack = xs })) (sym stack)
