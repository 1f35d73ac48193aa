use Rattle.std.proofs.Common.{sym, ◌∙◌, inl}
use Rattle.mz_base.proofs.Offered.{fails-after, all_hold-both}
use Rattle.mz_sexpr.specs.Number.{first}
use Rattle.mz_logic_theory.specs.Declaration.{signatures}
use Rattle.mz_logic_theory.specs.View.{tree}
use Rattle.mz_mmu_theory.specs.Rules.{expr_rules}
use Rattle.mz_type_rules.proofs.Judging.{handed_before}
use Rattle.mz_type_rules.proofs.convs.check_of_sort.Goals as goal

pub returns-in_err-check_expr : goal.returns-in_err-check_expr
returns-in_err-check_expr c =
    handed_before (expr_rules (signatures c.args.env.now) c.args.ctx.now (tree c.args.expr.now) (first c.args.nodes.now)) _ c.from_residual.result c.in_err-check_expr.field-0.0 c.from_residual.ensures.1 c.in_err-check_expr.ensures

pub returns-then-sort-sort_of : goal.returns-then-sort-sort_of
returns-then-sort-sort_of c =
    all_hold-both (expr_rules (signatures c.args.env.now) c.args.ctx.now (tree c.args.expr.now) (first c.args.nodes.now)) _ c.in_ok-check_expr.ensures (c.if-sort-sort_of.true ∙ c.sort_of.ensures, tt)

pub returns-else-sort-sort_of : goal.returns-else-sort-sort_of
returns-else-sort-sort_of c =
    fails-after (expr_rules (signatures c.args.env.now) c.args.ctx.now (tree c.args.expr.now) (first c.args.nodes.now)) _ c.fault.result c.in_ok-check_expr.ensures
    (inl (λ same. c.if-sort-sort_of.false (same ∙ sym c.sort_of.ensures), c.fault.ensures))
