use Rattle.std.proofs.Common.{◌++◌, subst}
use Rattle.mz_base.specs.Checks.{◌>>◌}
use Rattle.mz_sexpr.specs.Node.{parts}
use Rattle.mz_sexpr.specs.Number.{node_at}
use Rattle.mz_mmu_theory.specs.Name.{scope_of}
use Rattle.mz_mmu_theory.specs.FormOrder.{dummies_asked, expr_asked, names_of}
use Rattle.mz_mmu_forms.specs.ScopeView.{names}
use Rattle.mz_mmu_theory.specs.Stops.{Stops}
use Rattle.mz_mmu_theory.proofs.Offered.{dummies_hold}
use Rattle.mz_mmu_forms.proofs.Offered.{failed, stops_before, stops_after}
use Rattle.mz_mmu.proofs.statements.defined.Goals as goal

pub returns-in_err-dummies-clause-stops : goal.returns-in_err-dummies-clause-stops
returns-in_err-dummies-clause-stops c =
    let ns = names c.args.names.now in
    let vs = c.args.vars.now in
    let d = node_at c.args.reader.now.nodes.now c.args.dummies_at in
    let q = node_at c.args.reader.now.nodes.now c.args.body_at in
    let Q = expr_asked (scope_of ns (vs ++ names_of (parts d))) q in
    let s = c.in_err-dummies.field-0.0 in
    failed c.from_residual.result s (λ stop. Stops stop (dummies_asked ns vs d >> Q)) c.from_residual.ensures.1 (stops_before s (dummies_asked ns vs d) Q c.in_err-dummies.ensures.stops)

pub returns-in_err-body-clause-stops : goal.returns-in_err-body-clause-stops
returns-in_err-body-clause-stops c =
    let ns = names c.args.names.now in
    let vs = c.args.vars.now in
    let d = node_at c.args.reader.now.nodes.now c.args.dummies_at in
    let q = node_at c.args.reader.now.nodes.now c.args.body_at in
    let Q = expr_asked (scope_of ns (vs ++ names_of (parts d))) q in
    let s = c.in_err-body.field-0.0 in
    let named = dummies_hold ns vs d c.in_ok-dummies.dummies c.dummies.new.vars c.in_ok-dummies.ensures.read in
    failed c.from_residual-in_err-body.result s (λ stop. Stops stop (dummies_asked ns vs d >> Q)) c.from_residual-in_err-body.ensures.1
    (stops_after s (dummies_asked ns vs d) Q named.0 (subst (λ us. Stops s (expr_asked (scope_of ns us) q)) named.1 c.in_err-body.ensures.stops))
