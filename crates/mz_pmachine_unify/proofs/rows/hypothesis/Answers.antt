use Rattle.std.proofs.Common.{◌∙◌, ◌≡◌, true, sym, ap}
use Rattle.std.specs.Prelude.{◌==◌}
use Rattle.mz_pmachine_unify.specs.Numbering.{expr_of}
use Rattle.mz_pmachine_unify.proofs.StoredIds.{stack-empty, alone}
use Rattle.mz_machine_theory.specs.UnifyMachine.{is_empty, next_hypothesis}
use Rattle.mz_unify.specs.Stored.{mode_of}
use Rattle.mz_pmachine_unify.specs.Stored.{stack_at, items_at}
use Rattle.mz_unify.proofs.Offered.{hyp-target, hyp-stop, hyp-row}
use Rattle.mz_pmachine_theory.specs.NodeIdentity.{portable}
use Rattle.mz_pmachine_unify.proofs.rows.hypothesis.Goals as goal

pub returns-then-not-is_empty-clause-row : goal.returns-then-not-is_empty-clause-row
returns-then-not-is_empty-clause-row c sigs st is items =
    hyp-target portable sigs c.args.nodes.now.context (mode_of c.args.mode) st
    (ap is_empty is ∙ stack-empty c.args.nodes.now c.args.targets.now.items ∙ ap (λ n. n == 0) (sym c.args.targets.now.ok.0) ∙ sym c.is_empty.ensures ∙ c.if-not-is_empty.true)

pub returns-in_ok-push-in-Ok-clause-row : goal.returns-in_ok-push-in-Ok-clause-row
returns-in_ok-push-in-Ok-clause-row c sigs st is items =
    let none : is_empty (stack_at c.args.nodes.now c.args.targets.now.items) ≡ true = stack-empty c.args.nodes.now c.args.targets.now.items ∙ ap (λ n. n == 0) (sym c.args.targets.now.ok.0) ∙ sym c.is_empty.ensures ∙ c.if-not-is_empty.false in
    rw (c.in_ok-push-in-Ok.ensures.ok, alone c.args.nodes.now c.args.targets.now.items c.in-Ok.proved none)
    (hyp-row portable sigs c.args.nodes.now.context (mode_of c.args.mode) st (expr_of c.args.nodes.now c.in-Ok.proved.0) (items_at c.args.nodes.now c.take_hypothesis.new.hyps.items) (ap is_empty is ∙ none)
    (ap (next_hypothesis (mode_of c.args.mode)) items ∙ c.in-Ok.ensures.next))

pub returns-in-Err-clause-row : goal.returns-in-Err-clause-row
returns-in-Err-clause-row c sigs st is items =
    hyp-stop portable sigs c.args.nodes.now.context (mode_of c.args.mode) st c.in-Err.rule
    (ap is_empty is ∙ stack-empty c.args.nodes.now c.args.targets.now.items ∙ ap (λ n. n == 0) (sym c.args.targets.now.ok.0) ∙ sym c.is_empty.ensures ∙ c.if-not-is_empty.false)
    (ap (next_hypothesis (mode_of c.args.mode)) items ∙ c.in-Err.ensures.next)
