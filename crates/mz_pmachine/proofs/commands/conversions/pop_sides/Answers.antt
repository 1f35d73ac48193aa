use Rattle.std.proofs.Common.{sym, refl}
use Rattle.std.proofs.lemmas.Result.{err_from_is_err_and}
use Rattle.mz_pmachine.proofs.Converting.{no-middle, sides-none, sides-same, sides-other}
use Rattle.mz_machine.proofs.Offered.{true-false}
use Rattle.mz_pmachine.proofs.commands.conversions.pop_sides.Goals as goal

pub returns-in_err-middle-clause-taken : goal.returns-in_err-middle-clause-taken
returns-in_err-middle-clause-taken c =
    let p = err_from_is_err_and c.from_residual.result c.from_residual.ensures.1 in
    rw (p.1, p.2) (no-middle _ _ c.in_err-middle.ensures.taken)

pub returns-in_err-left-clause-taken : goal.returns-in_err-left-clause-taken
returns-in_err-left-clause-taken c =
    let p = err_from_is_err_and c.from_residual-in_err-left.result c.from_residual-in_err-left.ensures.1 in
    rw (p.1, p.2) (sides-none _ _ _ c.in_ok-middle.ensures.taken _ c.in_err-left.ensures.taken)

pub returns-then-same-clause-taken : goal.returns-then-same-clause-taken
returns-then-same-clause-taken c = sides-same _ _ _ c.in_ok-middle.ensures.taken _ _ _ c.in_ok-left.ensures.taken (c.if-same.ensures.0 refl)

pub returns-else-same-clause-taken : goal.returns-else-same-clause-taken
returns-else-same-clause-taken c = sides-other _ _ _ c.in_ok-middle.ensures.taken _ _ _ c.in_ok-left.ensures.taken (λ same. true-false (sym (c.if-same.ensures.1 same)))

-- ---- what the calls ask

pub pop_expr-requires : goal.pop_expr-requires
pop_expr-requires c = c.requires

pub pop_obligation-requires : goal.pop_obligation-requires
pop_obligation-requires c = c.in_ok-middle.ensures.ids.1
