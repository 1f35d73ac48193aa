use Rattle.std.proofs.Common.{subst}
use Rattle.mz_base.specs.Checks.{AllHold, FailsFirst, Judges}
use Rattle.mz_base.proofs.Offered.{judges-after}
use Rattle.mz_sexpr.specs.Node.{parts}
use Rattle.mz_sexpr.specs.Number.{first}
use Rattle.mz_logic_theory.specs.Declaration.{signatures}
use Rattle.mz_logic_theory.specs.Legality.{sort_of}
use Rattle.mz_logic_theory.specs.View.{tree}
use Rattle.mz_mmu_theory.specs.Parts.{part}
use Rattle.mz_mmu_theory.specs.Rules.{expr_rules, sorted_rules}
use Rattle.mz_type_rules.proofs.Judging.{handed_before}
use Rattle.mz_type_rules.proofs.convs.check_gap_sides.Goals as goal

pub returns-in_err-check_expr : goal.returns-in_err-check_expr
returns-in_err-check_expr c =
    let sigs = signatures c.args.env.now in
    let ctx = c.args.ctx.now in
    let e = tree c.args.left.now in
    let n = first c.args.nodes.now in
    handed_before (expr_rules sigs ctx e (part (parts n) 1)) _ c.from_residual.result c.in_err-check_expr.field-0.0 c.from_residual.ensures.1
    (subst (λ m. FailsFirst (expr_rules sigs ctx e m) c.in_err-check_expr.field-0.0) c.part.ensures c.in_err-check_expr.ensures)

pub returns : goal.returns
returns c =
    let sigs = signatures c.args.env.now in
    let ctx = c.args.ctx.now in
    let e = tree c.args.left.now in
    let f = tree c.args.right.now in
    let n = first c.args.nodes.now in
    judges-after (expr_rules sigs ctx e (part (parts n) 1)) (sorted_rules sigs ctx (sort_of sigs ctx e) f (part (parts n) 2)) c.check_of_sort.result
    (subst (λ m. AllHold (expr_rules sigs ctx e m)) c.part.ensures c.in_ok-check_expr.ensures)
    (subst (λ k. Judges c.check_of_sort.result (sorted_rules sigs ctx k f (part (parts n) 2))) c.sort_of.ensures
    (subst (λ m. Judges c.check_of_sort.result (sorted_rules sigs ctx c.sort_of.result f m)) c.part-2.ensures c.check_of_sort.ensures))
