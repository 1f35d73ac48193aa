use Rattle.std.proofs.Common.{◌∙◌, ap, sym, refl}
use Rattle.std.proofs.lemmas.Result.{err_from_is_err_and}
use Rattle.mz_machine_theory.specs.Profile.{strict}
use Rattle.mz_machine_theory.specs.Premises.{pop_obligation}
use Rattle.mz_unify.proofs.Offered.{of-trees}
use Rattle.mz_machine.proofs.ConversionRows.{refl-row, refl-other, refl-unowed}
use Rattle.mz_machine.proofs.Converting.{true-false}
use Rattle.mz_machine.proofs.commands.conversions.refl.Goals as goal

pub returns-then-same-clause-row : goal.returns-then-same-clause-row
returns-then-same-clause-row c tables at n st is = refl-row of-trees tables at n st _ _ _ (ap pop_obligation is ∙ c.in_ok-left.ensures.taken) (c.if-same.ensures.trees.0 refl)

pub returns-else-same-clause-row : goal.returns-else-same-clause-row
returns-else-same-clause-row c tables at n st is = refl-other of-trees tables at n st _ _ _ (ap pop_obligation is ∙ c.in_ok-left.ensures.taken) (λ same. true-false (sym (c.if-same.ensures.trees.1 same)))

-- ---- what the calls ask

pub pop_obligation-requires : goal.pop_obligation-requires
pop_obligation-requires c = c.requires

pub same-requires-clause-left : goal.same-requires-clause-left
same-requires-clause-left c = c.in_ok-left.ensures.ids.0

pub same-requires-clause-right : goal.same-requires-clause-right
same-requires-clause-right c = c.in_ok-left.ensures.ids.1

pub returns-in_err-left-clause-row : goal.returns-in_err-left-clause-row
returns-in_err-left-clause-row c tables at n st is =
    let p = err_from_is_err_and c.from_residual.result c.from_residual.ensures.1 in
    rw (p.1, p.2) (refl-unowed strict tables at n st _ (ap pop_obligation is ∙ c.in_err-left.ensures.taken))

pub returns-in_err-left-clause-ids : goal.returns-in_err-left-clause-ids
returns-in_err-left-clause-ids c = rw (err_from_is_err_and c.from_residual.result c.from_residual.ensures.1).1 tt
