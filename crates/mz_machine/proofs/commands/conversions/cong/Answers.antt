use Rattle.std.proofs.Common.{◌∙◌, ap, sym}
use Rattle.std.proofs.lemmas.Result.{err_from_is_err_and}
use Rattle.mz_unify.proofs.Offered.{heads-differ, heads-same, of-trees}
use Rattle.mz_machine_theory.specs.Profile.{strict}
use Rattle.mz_machine_theory.specs.Premises.{pop_obligation}
use Rattle.mz_machine.proofs.ConversionRows.{cong-unowed, cong-variable, cong-other, cong-row}
use Rattle.mz_machine.proofs.commands.conversions.cong.Goals as goal

pub returns-in_err-left-clause-row : goal.returns-in_err-left-clause-row
returns-in_err-left-clause-row c tables at n st is =
    let p = err_from_is_err_and c.from_residual.result c.from_residual.ensures.1 in
    rw (p.1, p.2) (cong-unowed strict tables at n st _ (ap pop_obligation is ∙ c.in_err-left.ensures.taken))

pub returns-in_default-clause-row : goal.returns-in_default-clause-row
returns-in_default-clause-row c tables at n st is = cong-variable of-trees tables at n st _ _ _ (ap pop_obligation is ∙ c.in_ok-left.ensures.taken) (sym c.head.ensures ∙ c.in_default.is)

pub returns-then-ne-clause-row : goal.returns-then-ne-clause-row
returns-then-ne-clause-row c tables at n st is =
    cong-other of-trees tables at n st _ _ _ (ap pop_obligation is ∙ c.in_ok-left.ensures.taken) c.in-Some.term (sym c.head.ensures ∙ c.in-Some.is)
    (λ h. heads-differ c.head-2.result c.in-Some.term (sym c.ne.ensures ∙ c.if-ne.true) (c.head-2.ensures ∙ h))

pub returns-clause-row : goal.returns-clause-row
returns-clause-row c tables at n st is =
    let h = sym c.head.ensures ∙ c.in-Some.is in
    let i = sym c.head-2.ensures ∙ heads-same c.head-2.result c.in-Some.term (sym c.ne.ensures ∙ c.if-ne.false) in
    cong-row of-trees tables at n st _ _ _ (ap pop_obligation is ∙ c.in_ok-left.ensures.taken) c.in-Some.term h i

-- ---- what the calls ask

pub pop_obligation-requires : goal.pop_obligation-requires
pop_obligation-requires c = c.requires

pub head-requires : goal.head-requires
head-requires c = c.in_ok-left.ensures.ids.0

pub head-requires-2 : goal.head-requires-2
head-requires-2 c = c.in_ok-left.ensures.ids.1
