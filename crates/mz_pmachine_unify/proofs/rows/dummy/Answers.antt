use Rattle.std.proofs.Common.{◌∙◌, sym}
use Rattle.mz_unify.proofs.Offered.{dummy-no-target, dummy-other, dummy-row}
use Rattle.mz_pmachine_theory.specs.NodeIdentity.{portable}
use Rattle.mz_pmachine_unify.proofs.rows.dummy.Goals as goal

pub returns-in_default-clause-row : goal.returns-in_default-clause-row
returns-in_default-clause-row c sigs mode st over told is = dummy-no-target portable sigs c.args.nodes.now.context mode st c.args.sort (is ∙ c.in_default.ensures.none)

pub returns-then-not-is_fresh-clause-row : goal.returns-then-not-is_fresh-clause-row
returns-then-not-is_fresh-clause-row c sigs mode st over told is =
    dummy-other portable sigs c.args.nodes.now.context mode st c.args.sort _ _ (is ∙ c.in-Some.ensures.some) (sym (c.is_fresh.ensures sigs st.apart over told) ∙ c.if-not-is_fresh.true)

pub returns-clause-row : goal.returns-clause-row
returns-clause-row c sigs mode st over told is =
    dummy-row portable sigs c.args.nodes.now.context mode st c.args.sort _ _ (is ∙ c.in-Some.ensures.some) (sym (c.is_fresh.ensures sigs st.apart over told) ∙ c.if-not-is_fresh.false)
