use Rattle.std.proofs.Common.{◌∙◌, sym, ap}
use Rattle.mz_machine_theory.specs.UnifyMachine.{is_empty, nothing_left}
use Rattle.mz_unify.specs.Stored.{mode_of}
use Rattle.mz_unify.proofs.RowValues.{end-target, end-left, end-row}
use Rattle.mz_machine_theory.specs.Profile.{strict}
use Rattle.mz_unify.proofs.rows.end.Goals as goal

pub returns-then-not-are_none : goal.returns-then-not-are_none
returns-then-not-are_none c sigs st is items =
    end-target strict sigs c.args.store.now.context (mode_of c.args.mode) st (ap is_empty is ∙ sym c.are_none.ensures ∙ c.if-not-are_none.true)

pub returns-then-not-nothing_left : goal.returns-then-not-nothing_left
returns-then-not-nothing_left c sigs st is items =
    end-left strict sigs c.args.store.now.context (mode_of c.args.mode) st (ap is_empty is ∙ sym c.are_none.ensures ∙ c.if-not-are_none.false)
    (ap (nothing_left (mode_of c.args.mode)) items ∙ sym c.nothing_left.ensures ∙ c.if-not-nothing_left.true)

pub returns : goal.returns
returns c sigs st is items =
    end-row strict sigs c.args.store.now.context (mode_of c.args.mode) st (ap is_empty is ∙ sym c.are_none.ensures ∙ c.if-not-are_none.false)
    (ap (nothing_left (mode_of c.args.mode)) items ∙ sym c.nothing_left.ensures ∙ c.if-not-nothing_left.false)
