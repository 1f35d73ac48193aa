use Rattle.std.proofs.Common.{◌++◌, ap, ◌∙◌, subst}
use Rattle.std.specs.Prelude.{Some}
use Rattle.mz_base.specs.Checks.{Judges}
use Rattle.mz_sexpr.specs.Node.{parts}
use Rattle.mz_sexpr.specs.Number.{first}
use Rattle.mz_logic_theory.specs.DeclView.{assertion_view}
use Rattle.mz_mmu_theory.specs.ProofView.{proof_view}
use Rattle.mz_mmu_theory.specs.Parts.{part}
use Rattle.mz_mmu_theory.specs.Rules.{dummy_rules, theorem_rules}
use Rattle.mz_type_rules.specs.Answers.{Judged, proves_rules}
use Rattle.mz_type_rules.proofs.Judging.{stop_handed_on, stopped_before, told_stop, told_holds, judged_after}
use Rattle.mz_type_rules.proofs.statements.check_stated_proof.Goals as goal

pub returns-in_err-refuse : goal.returns-in_err-refuse
returns-in_err-refuse c =
    let env = c.args.env.now in
    let ps = c.args.parts.now in
    let ds = c.args.dummies.now in
    let A = dummy_rules env ds (parts (part ps 5)) in
    let s = c.in_err-refuse.field-0.0 in
    let at = c.parts.ensures ∙ ap (λ ms. parts (first ms)) c.after.ensures in
    stop_handed_on (theorem_rules env (assertion_view c.args.thm.now) ds (Some (proof_view c.args.proof.now)) ps) c.from_residual.result s c.from_residual.ensures.1
    (stopped_before A _ s (told_stop A c.check_dummies.result c.refuse.result s c.refuse.ensures c.in_err-refuse.was
    (subst (λ ns. Judges c.check_dummies.result (dummy_rules env ds ns)) at c.check_dummies.ensures)))

pub returns : goal.returns
returns c =
    let env = c.args.env.now in
    let ps = c.args.parts.now in
    let a = assertion_view c.args.thm.now in
    let ds = c.args.dummies.now in
    let p = proof_view c.args.proof.now in
    let A = dummy_rules env ds (parts (part ps 5)) in
    let at = c.parts.ensures ∙ ap (λ ms. parts (first ms)) c.after.ensures in
    judged_after A (proves_rules env (a.params ++ ds) a.hyps p a.conclusion ps) c.check_proves.result
    (told_holds A c.check_dummies.result c.refuse.result c.in_ok-refuse.field-0 c.refuse.ensures c.in_ok-refuse.was
    (subst (λ ns. Judges c.check_dummies.result (dummy_rules env ds ns)) at c.check_dummies.ensures))
    (subst (λ ctx. Judged c.check_proves.result (proves_rules env ctx a.hyps p a.conclusion ps)) (c.new-ctx.ensures ∙ ap (λ qs. qs ++ ds) c.as_slice.ensures) c.check_proves.ensures)
