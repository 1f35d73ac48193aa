use Rattle.std.proofs.Common.{◌∙◌, true, false, sym, ap}
use Rattle.mz_pmachine_unify.specs.Numbering.{expr_of}
use Rattle.mz_pmachine_theory.specs.NodeIdentity.{portable}
use Rattle.mz_machine_theory.specs.MachineState.{is_axiom}
use Rattle.mz_machine_theory.specs.ProofMachine.{has_provable_sort}
use Rattle.mz_machine_env.specs.Before.{tables_of}
use Rattle.mz_machine_theory.specs.Headings.{heading_by}
use Rattle.mz_machine.proofs.Offered.{claim-ends, claim-other, provable}
use Rattle.mz_pmachine.proofs.end.check_claim.Goals as goal

pub returns-then-is_provable : goal.returns-then-is_provable
returns-then-is_provable c st ctx =
    let E = c.args.env.now in
    let s = c.args.nodes.now in
    let e = expr_of s c.args.target.0 in
    claim-ends portable (tables_of E) (heading_by E.file c.args.row is_axiom) st e
    (ap (λ bs. has_provable_sort portable (tables_of E) bs e) ctx ∙ provable portable E s.context e c.sort_of.result true (c.sort_of.ensures.sort _ c.requires.over)
    (sym c.is_provable.ensures ∙ c.if-is_provable.true))

pub returns-else-is_provable : goal.returns-else-is_provable
returns-else-is_provable c st ctx =
    let E = c.args.env.now in
    let s = c.args.nodes.now in
    let e = expr_of s c.args.target.0 in
    claim-other portable (tables_of E) (heading_by E.file c.args.row is_axiom) st e
    (ap (λ bs. has_provable_sort portable (tables_of E) bs e) ctx ∙ provable portable E s.context e c.sort_of.result false (c.sort_of.ensures.sort _ c.requires.over)
    (sym c.is_provable.ensures ∙ c.if-is_provable.false))
