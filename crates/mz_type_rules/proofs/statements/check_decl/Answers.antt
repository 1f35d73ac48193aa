use Rattle.std.proofs.Common.{sym, subst}
use Rattle.std.specs.Prelude.{Some, None}
use Rattle.mz_base.specs.Checks.{AllHold, nothing, ◌>>◌}
use Rattle.mz_base.proofs.Offered.{all_hold-both}
use Rattle.mz_logic_theory.specs.DeclView.{assertion_view, declaration}
use Rattle.mz_mmu_theory.specs.ProofView.{proof_view}
use Rattle.mz_type_rules.specs.Answers.{Judged, stated}
use Rattle.mz_mmu_theory.specs.Rules.{assertion_rules, theorem_rules, decl_rules}
use Rattle.mz_type_rules.proofs.Judging.{stop_handed_on, stopped_before, judged_after, told_stop, told_holds}
use Rattle.mz_type_rules.proofs.statements.check_decl.Goals as goal

pub returns-in-Term : goal.returns-in-Term
returns-in-Term c =
    subst (λ d. Judged c.check_term.result (decl_rules c.args.env.now (declaration d) c.args.dummies.now (stated c.args.proof) c.args.parts.now)) (sym c.in-Term.is) c.check_term.ensures

pub returns-in_err-refuse-in-Thm : goal.returns-in_err-refuse-in-Thm
returns-in_err-refuse-in-Thm c =
    let env = c.args.env.now in
    let ps = c.args.parts.now in
    let a = assertion_view c.in-Thm.thm in
    let s = c.in_err-refuse-in-Thm.field-0.0 in
    let A = assertion_rules env a ps in
    subst (λ d. Judged c.from_residual.result (decl_rules env (declaration d) c.args.dummies.now (stated c.args.proof) ps)) (sym c.in-Thm.is)
    (stop_handed_on (A >> theorem_rules env a c.args.dummies.now (stated c.args.proof) ps) c.from_residual.result s c.from_residual.ensures.1
    (stopped_before A _ s (told_stop A c.check_assertion_parts.result c.refuse.result s c.refuse.ensures c.in_err-refuse-in-Thm.was c.check_assertion_parts.ensures)))

pub returns-in-None : goal.returns-in-None
returns-in-None c =
    let env = c.args.env.now in
    let ps = c.args.parts.now in
    let a = assertion_view c.in-Thm.thm in
    let A = assertion_rules env a ps in
    subst (λ q. AllHold (decl_rules env (declaration c.args.decl.now) c.args.dummies.now (stated q) ps)) (sym c.in-None.is)
    (subst (λ d. AllHold (decl_rules env (declaration d) c.args.dummies.now None ps)) (sym c.in-Thm.is)
    (all_hold-both A nothing (told_holds A c.check_assertion_parts.result c.refuse.result c.in_ok-refuse-in-Thm.field-0 c.refuse.ensures c.in_ok-refuse-in-Thm.was c.check_assertion_parts.ensures) tt))

pub returns-in-Some : goal.returns-in-Some
returns-in-Some c =
    let env = c.args.env.now in
    let ps = c.args.parts.now in
    let a = assertion_view c.in-Thm.thm in
    let A = assertion_rules env a ps in
    let p = proof_view c.in-Some.proof.now in
    subst (λ q. Judged c.check_stated_proof.result (decl_rules env (declaration c.args.decl.now) c.args.dummies.now (stated q) ps)) (sym c.in-Some.is)
    (subst (λ d. Judged c.check_stated_proof.result (decl_rules env (declaration d) c.args.dummies.now (Some p) ps)) (sym c.in-Thm.is)
    (judged_after A (theorem_rules env a c.args.dummies.now (Some p) ps) c.check_stated_proof.result
    (told_holds A c.check_assertion_parts.result c.refuse.result c.in_ok-refuse-in-Thm.field-0 c.refuse.ensures c.in_ok-refuse-in-Thm.was c.check_assertion_parts.ensures) c.check_stated_proof.ensures))
