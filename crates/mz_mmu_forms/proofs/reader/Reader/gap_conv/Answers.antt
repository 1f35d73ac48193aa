use Rattle.std.proofs.Common.{◌∙◌, sym, subst}
use Rattle.mz_base.specs.Checks.{◌>>◌}
use Rattle.mz_sexpr.specs.Node.{Node, place}
use Rattle.mz_sexpr.specs.Number.{node_at}
use Rattle.mz_logic_theory.specs.View.{tree}
use Rattle.mz_mmu_theory.specs.Cursor.{nodes_from}
use Rattle.mz_mmu_theory.specs.FormOrder.{gap_asked, expr_asked, conv_asked_by}
use Rattle.mz_mmu_theory.specs.declared.keyword.Keyword.TheVariants.{Sorry as sorry_word}
use Rattle.mz_mmu_forms.specs.ScopeView.{scope}
use Rattle.mz_mmu_theory.specs.Stops.{Stops}
use Rattle.mz_mmu_theory.proofs.Offered.{expr_holds}
use Rattle.mz_mmu_forms.proofs.Stopping.{failed, stops_before, stops_after}
use Rattle.mz_mmu_forms.proofs.reader.Reader.gap_conv.Goals as goal

pub returns-in_err-left-clause-stops : goal.returns-in_err-left-clause-stops
returns-in_err-left-clause-stops c =
    let all = c.args.self.now.nodes.now in
    let sc = scope c.args.sc.now in
    let a = place (node_at all c.args.n) in
    let x = node_at all c.in-Some.left in
    let y = node_at all c.in-Some.right in
    let s = c.in_err-left.field-0.0 in
    let may = sym c.allows_gaps.ensures ∙ c.if-not-allows_gaps.false in
    failed c.from_residual.result s (λ stop. (h : Node) → Stops stop (conv_asked_by sc sorry_word a h (nodes_from all c.args.rest))) c.from_residual.ensures.1
    (λ h. subst (λ l. Stops s (conv_asked_by sc sorry_word a h l)) (sym c.in-Some.ensures.2)
    (stops_after s (gap_asked sc a) (expr_asked sc x >> expr_asked sc y) (may, tt) (stops_before s (expr_asked sc x) (expr_asked sc y) c.in_err-left.ensures.stops)))

pub returns-in_err-right-clause-stops : goal.returns-in_err-right-clause-stops
returns-in_err-right-clause-stops c =
    let all = c.args.self.now.nodes.now in
    let sc = scope c.args.sc.now in
    let a = place (node_at all c.args.n) in
    let x = node_at all c.in-Some.left in
    let y = node_at all c.in-Some.right in
    let s = c.in_err-right.field-0.0 in
    let may = sym c.allows_gaps.ensures ∙ c.if-not-allows_gaps.false in
    failed c.from_residual-in_err-right.result s (λ stop. (h : Node) → Stops stop (conv_asked_by sc sorry_word a h (nodes_from all c.args.rest))) c.from_residual-in_err-right.ensures.1
    (λ h. subst (λ l. Stops s (conv_asked_by sc sorry_word a h l)) (sym c.in-Some.ensures.2)
    (stops_after s (gap_asked sc a) (expr_asked sc x >> expr_asked sc y) (may, tt)
    (stops_after s (expr_asked sc x) (expr_asked sc y) (expr_holds sc x (tree c.in_ok-left.left) c.in_ok-left.ensures.read) c.in_err-right.ensures.stops)))
