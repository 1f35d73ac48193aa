use Rattle.mz_base.specs.Checks.{◌>>◌}
use Rattle.mz_sexpr.specs.Number.{node_at}
use Rattle.mz_mmu_theory.specs.Name.{scope_of}
use Rattle.mz_mmu_theory.specs.FormOrder.{expr_asked}
use Rattle.mz_mmu_theory.specs.StatementOrder.{hyps_asked}
use Rattle.mz_mmu_forms.specs.ScopeView.{names}
use Rattle.mz_mmu_theory.specs.Stops.{Stops}
use Rattle.mz_mmu_forms.proofs.Offered.{failed, stops_before, stops_after}
use Rattle.mz_mmu_theory.proofs.Offered.{hyps_hold}
use Rattle.mz_mmu.proofs.statements.claims.Goals as goal

pub returns-in_err-hyps-clause-stops : goal.returns-in_err-hyps-clause-stops
returns-in_err-hyps-clause-stops c =
    let sc = scope_of (names c.args.names.now) c.args.vars.now in
    let H = hyps_asked sc (node_at c.args.reader.now.nodes.now c.args.hyps_at) in
    let E = expr_asked sc (node_at c.args.reader.now.nodes.now c.args.conclusion_at) in
    let s = c.in_err-hyps.field-0.0 in
    failed c.from_residual.result s (λ stop. Stops stop (H >> E)) c.from_residual.ensures.1 (stops_before s H E c.in_err-hyps.ensures.stops)

pub returns-in_err-conclusion-clause-stops : goal.returns-in_err-conclusion-clause-stops
returns-in_err-conclusion-clause-stops c =
    let sc = scope_of (names c.args.names.now) c.args.vars.now in
    let h = node_at c.args.reader.now.nodes.now c.args.hyps_at in
    let E = expr_asked sc (node_at c.args.reader.now.nodes.now c.args.conclusion_at) in
    let s = c.in_err-conclusion.field-0.0 in
    failed c.from_residual-in_err-conclusion.result s (λ stop. Stops stop (hyps_asked sc h >> E)) c.from_residual-in_err-conclusion.ensures.1
    (stops_after s (hyps_asked sc h) E (hyps_hold sc h _ _ c.in_ok-hyps.ensures.read).0 c.in_err-conclusion.ensures.stops)
