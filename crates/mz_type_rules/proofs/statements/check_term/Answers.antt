use Rattle.std.proofs.Common.{true≢false, refl, sym, ap, ◌∙◌, subst, inl, []}
use Rattle.std.specs.Prelude.{None}
use Rattle.mz_base.specs.Checks.{Judges}
use Rattle.mz_base.proofs.Offered.{fails-after}
use Rattle.mz_sexpr.specs.Node.{parts, place}
use Rattle.mz_sexpr.specs.Number.{first}
use Rattle.mz_sexpr.specs.declared.rule.U.{U}
use Rattle.mz_logic_theory.specs.DeclView.{signature, form, term_of}
use Rattle.mz_mmu_theory.specs.FormOrder.{fault}
use Rattle.mz_mmu_theory.specs.Parts.{part}
use Rattle.mz_mmu_theory.specs.Rules.{param_rules, body_rules, decl_rules}
use Rattle.mz_type_rules.proofs.Judging.{stop_handed_on, stopped_before, told_stop, told_holds, judged_after, judged_asked}
use Rattle.mz_type_rules.proofs.statements.check_term.Goals as goal

pub returns-in_err-refuse : goal.returns-in_err-refuse
returns-in_err-refuse c =
    let env = c.args.env.now in
    let ps = c.args.parts.now in
    let params = c.args.term.now.params in
    let A = param_rules env params 0 params (parts (part ps 2)) in
    let s = c.in_err-refuse.field-0.0 in
    stop_handed_on (decl_rules env (term_of c.args.term.now) [] None ps) c.from_residual.result s c.from_residual.ensures.1
    (stopped_before A _ s (told_stop A c.check_params.result c.refuse.result s c.refuse.ensures c.in_err-refuse.was
    (subst (λ ns. Judges c.check_params.result (param_rules env params 0 params ns)) (c.parts.ensures ∙ ap (λ ms. parts (first ms)) c.after.ensures)
    (subst (λ qs. Judges c.check_params.result (param_rules env qs 0 qs c.parts.result)) c.as_slice.ensures c.check_params.ensures))))

pub returns-then-not-is_result_right : goal.returns-then-not-is_result_right
returns-then-not-is_result_right c =
    let env = c.args.env.now in
    let ps = c.args.parts.now in
    let params = c.args.term.now.params in
    let A = param_rules env params 0 params (parts (part ps 2)) in
    fails-after A _ c.fault.result
    (told_holds A c.check_params.result c.refuse.result c.in_ok-refuse.field-0 c.refuse.ensures c.in_ok-refuse.was
    (subst (λ ns. Judges c.check_params.result (param_rules env params 0 params ns)) (c.parts.ensures ∙ ap (λ ms. parts (first ms)) c.after.ensures)
    (subst (λ qs. Judges c.check_params.result (param_rules env qs 0 qs c.parts.result)) c.as_slice.ensures c.check_params.ensures)))
    (inl (λ k. true≢false (sym (c.if-not-is_result_right.ensures.1 k)), c.fault.ensures ∙ ap (λ m. fault (place (first m)) U.Declaration) c.after-then-not-is_result_right.ensures))

pub returns : goal.returns
returns c =
    let env = c.args.env.now in
    let ps = c.args.parts.now in
    let params = c.args.term.now.params in
    let A = param_rules env params 0 params (parts (part ps 2)) in
    judged_after A _ c.check_form.result
    (told_holds A c.check_params.result c.refuse.result c.in_ok-refuse.field-0 c.refuse.ensures c.in_ok-refuse.was
    (subst (λ ns. Judges c.check_params.result (param_rules env params 0 params ns)) (c.parts.ensures ∙ ap (λ ms. parts (first ms)) c.after.ensures)
    (subst (λ qs. Judges c.check_params.result (param_rules env qs 0 qs c.parts.result)) c.as_slice.ensures c.check_params.ensures)))
    (judged_asked _ _ (body_rules env (signature c.args.term.now) (form c.args.term.now.form) ps) c.check_form.result (c.if-not-is_result_right.ensures.0 refl) c.check_form.ensures)
