use Rattle.std.proofs.Common.{◌∙◌, sym}
use Rattle.mz_store.specs.Sharing.{tree_of}
use Rattle.mz_unify.proofs.VariableWords.{tells-any-push, tells-bound}
use Rattle.mz_unify.proofs.RowValues.{dummy-no-target, dummy-other, dummy-row}
use Rattle.mz_machine_theory.specs.Profile.{strict}
use Rattle.mz_unify.proofs.rows.dummy.Goals as goal

pub returns-in_default-clause-row : goal.returns-in_default-clause-row
returns-in_default-clause-row c sigs mode st over told is = dummy-no-target strict sigs c.args.store.now.context mode st c.args.sort (is ∙ c.in_default.ensures.none)

pub returns-then-not-is_fresh-clause-row : goal.returns-then-not-is_fresh-clause-row
returns-then-not-is_fresh-clause-row c sigs mode st over told is =
    dummy-other strict sigs c.args.store.now.context mode st c.args.sort _ _ (is ∙ c.in-Some.ensures.some) (sym (c.is_fresh.ensures sigs st.apart over told) ∙ c.if-not-is_fresh.true)

pub returns-clause-told : goal.returns-clause-told
returns-clause-told c sigs es over told =
    tells-any-push c.args.store.now.context c.args.apart.now c.deps.result es (tree_of c.args.store.now c.in-Some.top.0) told
    (tells-bound c.args.store.now sigs es c.args.sort c.in-Some.top c.deps.result (sym (c.is_fresh.ensures sigs es over told) ∙ c.if-not-is_fresh.false) (c.deps.ensures.variables sigs over))

pub returns-clause-row : goal.returns-clause-row
returns-clause-row c sigs mode st over told is =
    dummy-row strict sigs c.args.store.now.context mode st c.args.sort _ _ (is ∙ c.in-Some.ensures.some) (sym (c.is_fresh.ensures sigs st.apart over told) ∙ c.if-not-is_fresh.false)
