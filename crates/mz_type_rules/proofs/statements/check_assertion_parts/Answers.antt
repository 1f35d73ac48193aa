use Rattle.std.proofs.Common.{ap, ◌∙◌, subst}
use Rattle.mz_base.specs.Checks.{AllHold, FailsFirst, Judges}
use Rattle.mz_base.proofs.Offered.{fails-before, judges-after}
use Rattle.mz_sexpr.specs.Node.{parts}
use Rattle.mz_sexpr.specs.Number.{first}
use Rattle.mz_logic_theory.specs.DeclView.{assertion_view}
use Rattle.mz_logic_theory.specs.View.{tree}
use Rattle.mz_mmu_theory.specs.Parts.{part}
use Rattle.mz_mmu_theory.specs.Rules.{param_rules, claim_rules, claims_rules}
use Rattle.mz_type_rules.proofs.Judging.{handed_before, handed_after}
use Rattle.mz_type_rules.proofs.statements.check_assertion_parts.Goals as goal

pub returns-in_err-check_params : goal.returns-in_err-check_params
returns-in_err-check_params c =
    let env = c.args.env.now in
    let ps = c.args.parts.now in
    let params = c.args.thm.now.params in
    let A = param_rules env params 0 params (parts (part ps 2)) in
    let f = c.in_err-check_params.field-0.0 in
    handed_before A _ c.from_residual.result f c.from_residual.ensures.1
    (subst (λ ns. FailsFirst (param_rules env params 0 params ns) f) (c.parts.ensures ∙ ap (λ ms. parts (first ms)) c.after.ensures)
    (subst (λ qs. FailsFirst (param_rules env qs 0 qs c.parts.result) f) c.as_slice.ensures c.in_err-check_params.ensures))

pub returns-in_err-check_hyps : goal.returns-in_err-check_hyps
returns-in_err-check_hyps c =
    let env = c.args.env.now in
    let ps = c.args.parts.now in
    let params = c.args.thm.now.params in
    let A = param_rules env params 0 params (parts (part ps 2)) in
    let f = c.in_err-check_hyps.field-0.0 in
    handed_after A _ c.from_residual-in_err-check_hyps.result f
    (subst (λ ns. AllHold (param_rules env params 0 params ns)) (c.parts.ensures ∙ ap (λ ms. parts (first ms)) c.after.ensures)
    (subst (λ qs. AllHold (param_rules env qs 0 qs c.parts.result)) c.as_slice.ensures c.in_ok-check_params.ensures))
    c.from_residual-in_err-check_hyps.ensures.1
    (fails-before (claims_rules env params (assertion_view c.args.thm.now).is_axiom c.args.thm.now.hyps (parts (part ps 3))) _ f
    (subst (λ ns. FailsFirst (claims_rules env params (assertion_view c.args.thm.now).is_axiom c.args.thm.now.hyps ns) f) (c.parts-2.ensures ∙ ap (λ ms. parts (first ms)) c.after-2.ensures)
    (subst (λ ax. FailsFirst (claims_rules env params ax c.args.thm.now.hyps c.parts-2.result) f) c.is_axiom.ensures
    (subst (λ k. FailsFirst (claims_rules env k c.is_axiom.result c.args.thm.now.hyps c.parts-2.result) f) c.of-ctx.ensures c.in_err-check_hyps.ensures))))

pub returns : goal.returns
returns c =
    let env = c.args.env.now in
    let ps = c.args.parts.now in
    let params = c.args.thm.now.params in
    let A = param_rules env params 0 params (parts (part ps 2)) in
    judges-after A _ c.check_claim.result
    (subst (λ ns. AllHold (param_rules env params 0 params ns)) (c.parts.ensures ∙ ap (λ ms. parts (first ms)) c.after.ensures)
    (subst (λ qs. AllHold (param_rules env qs 0 qs c.parts.result)) c.as_slice.ensures c.in_ok-check_params.ensures))
    (judges-after (claims_rules env params (assertion_view c.args.thm.now).is_axiom c.args.thm.now.hyps (parts (part ps 3))) _ c.check_claim.result
    (subst (λ ns. AllHold (claims_rules env params (assertion_view c.args.thm.now).is_axiom c.args.thm.now.hyps ns)) (c.parts-2.ensures ∙ ap (λ ms. parts (first ms)) c.after-2.ensures)
    (subst (λ ax. AllHold (claims_rules env params ax c.args.thm.now.hyps c.parts-2.result)) c.is_axiom.ensures
    (subst (λ k. AllHold (claims_rules env k c.is_axiom.result c.args.thm.now.hyps c.parts-2.result)) c.of-ctx.ensures c.in_ok-check_hyps.ensures)))
    (subst (λ m. Judges c.check_claim.result (claim_rules env params (tree c.args.thm.now.conclusion) (first m))) c.after-3.ensures
    (subst (λ k. Judges c.check_claim.result (claim_rules env k (tree c.args.thm.now.conclusion) (first c.after-3.result))) c.of-ctx.ensures c.check_claim.ensures)))
