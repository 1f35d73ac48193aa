use Rattle.std.proofs.Common.{subst}
use Rattle.mz_base.specs.Checks.{Judges, ◌>>◌}
use Rattle.mz_sexpr.specs.Number.{first}
use Rattle.mz_sexpr.specs.Node.{parts}
use Rattle.mz_logic_theory.specs.Declaration.{signatures}
use Rattle.mz_logic_theory.specs.View.{tree}
use Rattle.mz_mmu_theory.specs.ConvView.{conversion}
use Rattle.mz_type_rules.specs.Answers.{Judged}
use Rattle.mz_mmu_theory.specs.Parts.{part}
use Rattle.mz_mmu_theory.specs.Rules.{expr_rules, conv_rules}
use Rattle.mz_type_rules.proofs.Judging.{stop_handed_on, stopped_before, judged_after, told_stop, told_holds}
use Rattle.mz_type_rules.proofs.convs.Checker.check_converted.Goals as goal

pub returns-in_err-refuse : goal.returns-in_err-refuse
returns-in_err-refuse c =
    let sigs = signatures c.args.self.now.env.now in
    let ctx = c.args.self.now.ctx.now in
    let e = tree c.args.e.now in
    let n = first c.args.nodes.now in
    let A = expr_rules sigs ctx e (part (parts n) 1) in
    let B = conv_rules c.args.self.now.env.now ctx (conversion c.args.conv.now) (part (parts n) 2) in
    let s = c.in_err-refuse.field-0.0 in
    stop_handed_on (A >> B) c.from_residual.result s c.from_residual.ensures.1
    (stopped_before A B s (told_stop A c.check_expr.result c.refuse.result s c.refuse.ensures c.in_err-refuse.was
    (subst (λ m. Judges c.check_expr.result (expr_rules sigs ctx e m)) c.part.ensures c.check_expr.ensures)))

pub returns : goal.returns
returns c =
    let env = c.args.self.now.env.now in
    let sigs = signatures env in
    let ctx = c.args.self.now.ctx.now in
    let e = tree c.args.e.now in
    let d = conversion c.args.conv.now in
    let n = first c.args.nodes.now in
    let A = expr_rules sigs ctx e (part (parts n) 1) in
    judged_after A (conv_rules env ctx d (part (parts n) 2)) c.check_conv.result
    (told_holds A c.check_expr.result c.refuse.result c.in_ok-refuse.field-0 c.refuse.ensures c.in_ok-refuse.was
    (subst (λ m. Judges c.check_expr.result (expr_rules sigs ctx e m)) c.part.ensures c.check_expr.ensures))
    (subst (λ m. Judged c.check_conv.result (conv_rules env ctx d m)) c.part-2.ensures c.check_conv.ensures)
