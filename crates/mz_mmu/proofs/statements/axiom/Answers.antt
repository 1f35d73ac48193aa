use Rattle.std.proofs.Common.{sym, subst}
use Rattle.mz_base.specs.Checks.{◌>>◌}
use Rattle.mz_sexpr.specs.Node.{place, parts}
use Rattle.mz_sexpr.specs.Number.{node_at}
use Rattle.mz_mmu_theory.specs.Cursor.{nodes_from}
use Rattle.mz_mmu_theory.specs.declared.kind.Kind.TheVariants.{Axiom as axiom_kind}
use Rattle.mz_mmu_theory.specs.Name.{scope_of}
use Rattle.mz_mmu_theory.specs.FormOrder.{new_asked, params_asked, expr_asked, expr_list_asked, names_of}
use Rattle.mz_mmu_theory.specs.StatementOrder.{declared_asked}
use Rattle.mz_mmu_forms.specs.ScopeView.{names}
use Rattle.mz_mmu_theory.specs.Stops.{Stops}
use Rattle.mz_mmu_theory.proofs.Offered.{new_holds, params_hold}
use Rattle.mz_mmu_forms.proofs.Offered.{failed, stops_before, stops_after}
use Rattle.mz_mmu.proofs.statements.axiom.Goals as goal

pub returns-in_err-params-clause-stops : goal.returns-in_err-params-clause-stops
returns-in_err-params-clause-stops c =
    let all = c.args.reader.now.nodes.now in
    let ns = names c.args.names.now in
    let a = place (node_at all c.args.n) in
    let X = node_at all c.in-Some.name in
    let P = node_at all c.in-Some.params in
    let H = node_at all c.in-Some.hyps in
    let E = node_at all c.in-Some.conclusion in
    let s = c.in_err-params.field-0.0 in
    failed c.from_residual-in_err-params.result s (λ stop. Stops stop (declared_asked axiom_kind a ns (nodes_from all c.args.rest))) c.from_residual-in_err-params.ensures.1
    (subst (λ l. Stops s (declared_asked axiom_kind a ns l)) (sym c.in-Some.ensures.4)
    (stops_after s (new_asked ns.assertions X) (params_asked ns P >> expr_list_asked (scope_of ns (names_of (parts P))) H >> expr_asked (scope_of ns (names_of (parts P))) E) (new_holds ns.assertions X c.in_ok-name.name.now c.in_ok-name.ensures.read)
    (stops_before s (params_asked ns P) (expr_list_asked (scope_of ns (names_of (parts P))) H >> expr_asked (scope_of ns (names_of (parts P))) E) c.in_err-params.ensures.stops)))

pub returns-in_err-hyps-clause-stops : goal.returns-in_err-hyps-clause-stops
returns-in_err-hyps-clause-stops c =
    let all = c.args.reader.now.nodes.now in
    let ns = names c.args.names.now in
    let a = place (node_at all c.args.n) in
    let X = node_at all c.in-Some.name in
    let P = node_at all c.in-Some.params in
    let H = node_at all c.in-Some.hyps in
    let E = node_at all c.in-Some.conclusion in
    let s = c.in_err-hyps.field-0.0 in
    let named = params_hold ns P c.in_ok-params.params c.params.new.vars c.in_ok-params.ensures.read in
    failed c.from_residual-in_err-hyps.result s (λ stop. Stops stop (declared_asked axiom_kind a ns (nodes_from all c.args.rest))) c.from_residual-in_err-hyps.ensures.1
    (subst (λ l. Stops s (declared_asked axiom_kind a ns l)) (sym c.in-Some.ensures.4)
    (stops_after s (new_asked ns.assertions X) (params_asked ns P >> expr_list_asked (scope_of ns (names_of (parts P))) H >> expr_asked (scope_of ns (names_of (parts P))) E) (new_holds ns.assertions X c.in_ok-name.name.now c.in_ok-name.ensures.read)
    (stops_after s (params_asked ns P) (expr_list_asked (scope_of ns (names_of (parts P))) H >> expr_asked (scope_of ns (names_of (parts P))) E) named.0
    (subst (λ vs. Stops s (expr_list_asked (scope_of ns vs) H >> expr_asked (scope_of ns vs) E)) named.1 c.in_err-hyps.ensures.stops))))
