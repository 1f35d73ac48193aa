use Rattle.std.proofs.Common.{◌∙◌, refl, sym, ap}
use Rattle.mz_pmachine_unify.specs.Numbering.{expr_of}
use Rattle.mz_machine_theory.specs.Premises.{pop_obligation}
use Rattle.mz_machine.proofs.Offered.{pay-left, pay-right, pay-row, true-false}
use Rattle.mz_pmachine_unify.proofs.Offered.{of-numbered}
use Rattle.mz_pmachine.proofs.commands.heap.pay.Goals.{else-same-via-then-same+else-same-2, else-same-via-else-same}
use Rattle.mz_pmachine.proofs.commands.heap.pay.Goals as goal

pub returns-then-same-2-clause-row : goal.returns-then-same-2-clause-row
returns-then-same-2-clause-row c st is =
    pay-row of-numbered st (expr_of c.args.nodes.now c.args.left.0) (expr_of c.args.nodes.now c.args.right.0) _ _ _ (ap pop_obligation is ∙ c.in_ok-owed_left.ensures.taken)
    (c.if-same.ensures.0 refl) (c.if-same-2.ensures.0 refl)

pub returns-else-same-clause-row : goal.returns-else-same-clause-row
returns-else-same-clause-row c st is = elim c.else-same.branch [
  | else-same-via-then-same+else-same-2 w ↦
      pay-right of-numbered st (expr_of c.args.nodes.now c.args.left.0) (expr_of c.args.nodes.now c.args.right.0) _ _ _ (ap pop_obligation is ∙ c.in_ok-owed_left.ensures.taken)
      (w.if-same.ensures.0 refl) (λ same. true-false (sym (w.if-same-2.ensures.1 same)))
  | else-same-via-else-same w ↦
      pay-left of-numbered st (expr_of c.args.nodes.now c.args.left.0) (expr_of c.args.nodes.now c.args.right.0) _ _ _ (ap pop_obligation is ∙ c.in_ok-owed_left.ensures.taken)
      (λ same. true-false (sym (w.if-same.ensures.1 same)))
]

-- ---- what the calls ask

pub pop_obligation-requires : goal.pop_obligation-requires
pop_obligation-requires c = c.requires.stack
