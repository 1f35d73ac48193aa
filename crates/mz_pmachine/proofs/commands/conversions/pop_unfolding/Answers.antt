use Rattle.std.proofs.lemmas.Result.{err_from_is_err_and}
use Rattle.mz_pmachine.proofs.Converting.{none-unfolded, no-sides-unfolded, unfolded}
use Rattle.mz_pmachine.proofs.commands.conversions.pop_unfolding.Goals as goal

pub returns-in_err-unfolded-clause-taken : goal.returns-in_err-unfolded-clause-taken
returns-in_err-unfolded-clause-taken c =
    let p = err_from_is_err_and c.from_residual.result c.from_residual.ensures.1 in
    rw (p.1, p.2) (none-unfolded _ _ c.in_err-unfolded.ensures.taken)

pub returns-in_err-unfolded-clause-ids : goal.returns-in_err-unfolded-clause-ids
returns-in_err-unfolded-clause-ids c = rw (err_from_is_err_and c.from_residual.result c.from_residual.ensures.1).1 tt

pub returns-in_err-left-clause-taken : goal.returns-in_err-left-clause-taken
returns-in_err-left-clause-taken c =
    let p = err_from_is_err_and c.from_residual-in_err-left.result c.from_residual-in_err-left.ensures.1 in
    rw (p.1, p.2) (no-sides-unfolded _ _ _ _ c.in_ok-unfolded.ensures.taken c.in_err-left.ensures.taken)

pub returns-in_err-left-clause-ids : goal.returns-in_err-left-clause-ids
returns-in_err-left-clause-ids c = rw (err_from_is_err_and c.from_residual-in_err-left.result c.from_residual-in_err-left.ensures.1).1 tt

pub returns-clause-taken : goal.returns-clause-taken
returns-clause-taken c = unfolded _ _ _ _ _ _ c.in_ok-unfolded.ensures.taken c.in_ok-left.ensures.taken

-- ---- what the calls ask

pub pop_expr-requires : goal.pop_expr-requires
pop_expr-requires c = c.requires

pub pop_sides-requires : goal.pop_sides-requires
pop_sides-requires c = c.in_ok-unfolded.ensures.ids.1

pub returns-clause-ids : goal.returns-clause-ids
returns-clause-ids c = (c.in_ok-unfolded.ensures.ids.0, c.in_ok-left.ensures.ids.0, c.in_ok-left.ensures.ids.1, c.in_ok-left.ensures.ids.2)
