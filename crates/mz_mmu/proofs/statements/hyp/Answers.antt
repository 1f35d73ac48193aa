use Rattle.std.proofs.Common.{◌∙◌, sym, subst}
use Rattle.mz_sexpr.specs.Node.{node, no_nodes, parts}
use Rattle.mz_sexpr.specs.Number.{node_at}
use Rattle.mz_mmu_theory.specs.StatementOrder.{hyp_asked}
use Rattle.mz_mmu_theory.specs.FormOrder.{new_asked, expr_asked}
use Rattle.mz_mmu_forms.specs.ScopeView.{scope}
use Rattle.mz_mmu_theory.specs.Stops.{Stops}
use Rattle.mz_mmu_theory.proofs.Offered.{stands_from, list_of, new_holds}
use Rattle.mz_mmu_forms.proofs.Offered.{failed, stops_after}
use Rattle.mz_mmu.proofs.statements.hyp.Goals as goal

pub returns-in_err-expr-clause-stops : goal.returns-in_err-expr-clause-stops
returns-in_err-expr-clause-stops c =
    let all = c.args.reader.now.nodes.now in
    let sc = scope c.args.sc.now in
    let labels = c.args.labels.now in
    let m = node_at all c.args.n in
    let s = c.in_err-expr.field-0.0 in
    let x = node_at all c.in-Some.name in
    let y = node_at all c.in-Some.expr in
    let is = stands_from all c.first.result (parts m) c.first.ensures ∙ c.in-Some.ensures.2 in
    failed c.from_residual-in_err-expr.result s (λ stop. Stops stop (hyp_asked sc labels m)) c.from_residual-in_err-expr.ensures.1
    (subst (λ l. Stops s (hyp_asked sc labels l)) (sym (list_of m x (node y no_nodes) is))
    (stops_after s (new_asked labels x) (expr_asked sc y) (new_holds labels x c.in_ok-name.name.now c.in_ok-name.ensures.read) c.in_err-expr.ensures.stops))
