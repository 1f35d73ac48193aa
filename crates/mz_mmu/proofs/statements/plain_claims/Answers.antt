use Rattle.mz_base.specs.Checks.{◌>>◌}
use Rattle.mz_sexpr.specs.Number.{node_at}
use Rattle.mz_mmu_theory.specs.Name.{scope_of}
use Rattle.mz_mmu_theory.specs.FormOrder.{expr_asked, expr_list_asked}
use Rattle.mz_mmu_forms.specs.ScopeView.{names}
use Rattle.mz_mmu_theory.specs.Stops.{Stops}
use Rattle.mz_mmu_theory.proofs.Offered.{expr_list_holds}
use Rattle.mz_mmu_forms.proofs.Offered.{failed, stops_before, stops_after}
use Rattle.mz_mmu.proofs.statements.plain_claims.Goals as goal

pub returns-in_err-formulas-clause-stops : goal.returns-in_err-formulas-clause-stops
returns-in_err-formulas-clause-stops c =
    let sc = scope_of (names c.args.names.now) c.args.vars.now in
    let H = expr_list_asked sc (node_at c.args.reader.now.nodes.now c.args.hyps_at) in
    let E = expr_asked sc (node_at c.args.reader.now.nodes.now c.args.conclusion_at) in
    let s = c.in_err-formulas.field-0.0 in
    failed c.from_residual.result s (λ stop. Stops stop (H >> E)) c.from_residual.ensures.1 (stops_before s H E c.in_err-formulas.ensures.stops)

pub returns-in_err-conclusion-clause-stops : goal.returns-in_err-conclusion-clause-stops
returns-in_err-conclusion-clause-stops c =
    let sc = scope_of (names c.args.names.now) c.args.vars.now in
    let h = node_at c.args.reader.now.nodes.now c.args.hyps_at in
    let E = expr_asked sc (node_at c.args.reader.now.nodes.now c.args.conclusion_at) in
    let s = c.in_err-conclusion.field-0.0 in
    failed c.from_residual-in_err-conclusion.result s (λ stop. Stops stop (expr_list_asked sc h >> E)) c.from_residual-in_err-conclusion.ensures.1
    (stops_after s (expr_list_asked sc h) E (expr_list_holds sc h _ c.in_ok-formulas.ensures.read) c.in_err-conclusion.ensures.stops)
