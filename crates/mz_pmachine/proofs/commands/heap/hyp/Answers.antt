use Rattle.std.proofs.Common.{◌≡◌, ◌∙◌, true, false, sym, ap, subst}
use Rattle.std.proofs.lemmas.Result.{err_from_is_err_and}
use Rattle.mz_pmachine_unify.specs.Numbering.{expr_of}
use Rattle.mz_pmachine_theory.specs.NodeIdentity.{portable}
use Rattle.mz_machine_theory.specs.Premises.{pop_expr}
use Rattle.mz_machine_theory.specs.ProofMachine.{has_provable_sort}
use Rattle.mz_machine_env.specs.Before.{tables_of}
use Rattle.mz_machine.proofs.Offered.{hyp-err, hyp-other, hyp-row, provable}
use Rattle.mz_pmachine.proofs.commands.heap.hyp.Goals as goal

pub returns-in_err-claim-clause-row : goal.returns-in_err-claim-clause-row
returns-in_err-claim-clause-row c at n st ctx is =
    let p = err_from_is_err_and c.from_residual.result c.from_residual.ensures.1 in
    rw (p.1, p.2) (hyp-err portable (tables_of c.args.env.now) at n st _ (ap pop_expr is ∙ c.in_err-claim.ensures.taken))

pub returns-then-is_provable-clause-row : goal.returns-then-is_provable-clause-row
returns-then-is_provable-clause-row c at n st ctx is =
    hyp-row portable (tables_of c.args.env.now) at n st _ _ (ap pop_expr is ∙ c.in_ok-claim.ensures.taken)
    (subst (λ x. has_provable_sort portable (tables_of c.args.env.now) x (expr_of c.args.nodes.now c.in_ok-claim.claim.0) ≡ true) (sym ctx)
    (provable portable c.args.env.now c.args.nodes.now.context _ c.sort_of.result true (c.sort_of.ensures.sort _ c.requires.over) (sym c.is_provable.ensures ∙ c.if-is_provable.true)))

pub returns-else-is_provable-clause-row : goal.returns-else-is_provable-clause-row
returns-else-is_provable-clause-row c at n st ctx is =
    hyp-other portable (tables_of c.args.env.now) at n st _ _ (ap pop_expr is ∙ c.in_ok-claim.ensures.taken)
    (subst (λ x. has_provable_sort portable (tables_of c.args.env.now) x (expr_of c.args.nodes.now c.in_ok-claim.claim.0) ≡ false) (sym ctx)
    (provable portable c.args.env.now c.args.nodes.now.context _ c.sort_of.result false (c.sort_of.ensures.sort _ c.requires.over) (sym c.is_provable.ensures ∙ c.if-is_provable.false)))

-- ---- what the calls ask

pub pop_expr-requires : goal.pop_expr-requires
pop_expr-requires c = c.requires.stack

pub sort_of-requires : goal.sort_of-requires
sort_of-requires c = c.in_ok-claim.ensures.ids.0

pub returns-then-is_provable-clause-ids : goal.returns-then-is_provable-clause-ids
returns-then-is_provable-clause-ids c = c.in_ok-claim.ensures.ids
