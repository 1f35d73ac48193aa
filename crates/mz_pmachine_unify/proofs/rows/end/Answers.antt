use Rattle.std.proofs.Common.{◌∙◌, sym, ap}
use Rattle.mz_pmachine_unify.proofs.StoredIds.{stack-empty}
use Rattle.mz_machine_theory.specs.UnifyMachine.{is_empty, nothing_left}
use Rattle.mz_unify.specs.Stored.{mode_of}
use Rattle.mz_unify.proofs.Offered.{end-target, end-left, end-row}
use Rattle.mz_pmachine_theory.specs.NodeIdentity.{portable}
use Rattle.mz_pmachine_unify.proofs.rows.end.Goals as goal

pub returns-then-not-is_empty : goal.returns-then-not-is_empty
returns-then-not-is_empty c sigs st is items =
    end-target portable sigs c.args.nodes.now.context (mode_of c.args.mode) st (ap is_empty is ∙ stack-empty c.args.nodes.now c.args.targets.now ∙ sym c.is_empty.ensures ∙ c.if-not-is_empty.true)

pub returns-then-not-nothing_left : goal.returns-then-not-nothing_left
returns-then-not-nothing_left c sigs st is items =
    end-left portable sigs c.args.nodes.now.context (mode_of c.args.mode) st (ap is_empty is ∙ stack-empty c.args.nodes.now c.args.targets.now ∙ sym c.is_empty.ensures ∙ c.if-not-is_empty.false)
    (ap (nothing_left (mode_of c.args.mode)) items ∙ sym c.nothing_left.ensures ∙ c.if-not-nothing_left.true)

pub returns : goal.returns
returns c sigs st is items =
    end-row portable sigs c.args.nodes.now.context (mode_of c.args.mode) st (ap is_empty is ∙ stack-empty c.args.nodes.now c.args.targets.now ∙ sym c.is_empty.ensures ∙ c.if-not-is_empty.false)
    (ap (nothing_left (mode_of c.args.mode)) items ∙ sym c.nothing_left.ensures ∙ c.if-not-nothing_left.false)
