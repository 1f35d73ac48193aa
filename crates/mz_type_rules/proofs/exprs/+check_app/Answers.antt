use Rattle.std.proofs.Common.{◌≡◌, ◌+◌, ◌∙◌, sym, ap, subst, arith}
use Rattle.mz_base.specs.Checks.{AllHold, Judges}
use Rattle.mz_base.proofs.Offered.{fails-before, Decides}
use Rattle.mz_sexpr.specs.Node.{place}
use Rattle.mz_sexpr.specs.Number.{first}
use Rattle.mz_logic_theory.specs.Declaration.{signatures}
use Rattle.mz_logic_theory.specs.Shapes.{shape_tree}
use Rattle.mz_logic_theory.specs.Tree.{app, more, past}
use Rattle.mz_logic_theory.proofs.Offered.{at-end}
use Rattle.mz_mmu_theory.specs.Rules.{expr_rules, exprs_rules}
use Rattle.mz_type_rules.proofs.Judging.{handed_before, handed_within}
use Rattle.mz_type_rules.proofs.Steps.{app_rules, exprs_left, exprs_step}
use Rattle.mz_type_rules.proofs.exprs.+check_app.Goals.{check_borrowed_exprs-in-Var, check_borrowed_exprs-in-App+in_ok-check_app-in-App}
use Rattle.mz_type_rules.proofs.exprs.+check_app.Goals as goal

pub check_app-returns-in_err-check_borrowed_exprs : goal.check_app-returns-in_err-check_borrowed_exprs
check_app-returns-in_err-check_borrowed_exprs t c =
    let sigs = signatures c.args.env.now in
    let ctx = c.args.ctx.now in
    let n = first c.args.nodes.now in
    subst (λ ms. Judges c.from_residual.result (app_rules sigs ctx c.args.term c.args.es.now (place n) ms)) c.parts_after.ensures
    (handed_before (exprs_rules sigs ctx c.args.es.now c.parts_after.result) _ c.from_residual.result c.in_err-check_borrowed_exprs.field-0.0 c.from_residual.ensures.1 c.in_err-check_borrowed_exprs.ensures)

pub check_app-check_app_operands-requires : goal.check_app-check_app_operands-requires
check_app-check_app_operands-requires t c =
    subst (λ ns. AllHold (exprs_rules (signatures c.args.env.now) c.args.ctx.now c.args.es.now ns)) c.parts_after.ensures c.in_ok-check_borrowed_exprs.ensures

pub check_borrowed_exprs-returns-in_err-check_app-in-App : goal.check_borrowed_exprs-returns-in_err-check_app-in-App
check_borrowed_exprs-returns-in_err-check_app-in-App t c =
    let sigs = signatures c.args.env.now in
    let ctx = c.args.ctx.now in
    let es = c.args.es.now in
    let e = app c.in-App.t c.in-App.operands in
    let is : c.at.result ≡ e = sym c.shape.ensures ∙ ap shape_tree c.in-App.is in
    let cut = c.at.ensures.left ∙ ap (λ f. more f (past (c.loop-i.i + 1) es)) is in
    let whole = exprs_rules sigs ctx es c.args.nodes.now in
    let fault = c.in_err-check_app-in-App.field-0.0 in
    handed_within _ whole c.from_residual.result fault
    (exprs_left es c.loop-i.i e cut sigs ctx c.loop-i.left whole c.loop-i.invariant)
    c.from_residual.ensures.1
    (fails-before (expr_rules sigs ctx e (first c.loop-i.left)) _ fault c.in_err-check_app-in-App.ensures)

pub check_borrowed_exprs-loop-i-preserved : goal.check_borrowed_exprs-loop-i-preserved
check_borrowed_exprs-loop-i-preserved t c =
    let sigs = signatures c.args.env.now in
    let ctx = c.args.ctx.now in
    let es = c.args.es.now in
    let whole = exprs_rules sigs ctx es c.args.nodes.now in
    let holds : AllHold (expr_rules sigs ctx c.at.result (first c.loop-i.left)) = elim c.match-shape.branch [
      | check_borrowed_exprs-in-Var w ↦ subst (λ e. AllHold (expr_rules sigs ctx e (first c.loop-i.left))) (sym (ap shape_tree w.in-Var.is) ∙ c.shape.ensures) tt
      | check_borrowed_exprs-in-App+in_ok-check_app-in-App w ↦
          subst (λ e. AllHold (expr_rules sigs ctx e (first c.loop-i.left))) (sym (ap shape_tree w.in-App.is) ∙ c.shape.ensures) w.in_ok-check_app-in-App.ensures
    ] in
    subst (λ ns. Decides (exprs_rules sigs ctx (past (c.loop-i.i + 1) es) ns) whole) (sym c.rest-left.ensures)
    (exprs_step es c.loop-i.i c.at.result c.at.ensures.left sigs ctx c.loop-i.left whole holds c.loop-i.invariant)

pub check_borrowed_exprs-returns : goal.check_borrowed_exprs-returns
check_borrowed_exprs-returns t c =
    c.loop-i.invariant.holds (at-end (λ es. AllHold (exprs_rules (signatures c.args.env.now) c.args.ctx.now es c.loop-i.left)) c.args.es.now c.loop-i.i
    (omega (arith, c.len-i-end.ensures, c.loop-i-test.false)) tt)
