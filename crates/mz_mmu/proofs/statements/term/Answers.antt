use Rattle.std.proofs.Common.{sym, subst}
use Rattle.mz_base.specs.Checks.{◌>>◌}
use Rattle.mz_sexpr.specs.Node.{place, parts}
use Rattle.mz_sexpr.specs.Number.{node_at}
use Rattle.mz_mmu_theory.specs.Cursor.{nodes_from}
use Rattle.mz_mmu_theory.specs.declared.kind.Kind.TheVariants.{Term as term_kind}
use Rattle.mz_mmu_theory.specs.FormOrder.{new_asked, params_asked, result_asked, names_of}
use Rattle.mz_mmu_theory.specs.StatementOrder.{declared_asked}
use Rattle.mz_mmu_forms.specs.ScopeView.{names}
use Rattle.mz_mmu_theory.specs.Stops.{Stops}
use Rattle.mz_mmu_theory.proofs.Offered.{new_holds, params_hold}
use Rattle.mz_mmu_forms.proofs.Offered.{failed, stops_before, stops_after}
use Rattle.mz_mmu.proofs.statements.term.Goals as goal

pub returns-in_err-params-clause-stops : goal.returns-in_err-params-clause-stops
returns-in_err-params-clause-stops c =
    let all = c.args.reader.now.nodes.now in
    let ns = names c.args.names.now in
    let a = place (node_at all c.args.n) in
    let X = node_at all c.in-Some.name in
    let P = node_at all c.in-Some.params in
    let R = node_at all c.in-Some.result in
    let s = c.in_err-params.field-0.0 in
    failed c.from_residual-in_err-params.result s (λ stop. Stops stop (declared_asked term_kind a ns (nodes_from all c.args.rest))) c.from_residual-in_err-params.ensures.1
    (subst (λ l. Stops s (declared_asked term_kind a ns l)) (sym c.in-Some.ensures.3)
    (stops_after s (new_asked ns.terms X) (params_asked ns P >> result_asked ns (names_of (parts P)) R) (new_holds ns.terms X c.in_ok-name.name.now c.in_ok-name.ensures.read)
    (stops_before s (params_asked ns P) (result_asked ns (names_of (parts P)) R) c.in_err-params.ensures.stops)))

pub returns-in_err-result-clause-stops : goal.returns-in_err-result-clause-stops
returns-in_err-result-clause-stops c =
    let all = c.args.reader.now.nodes.now in
    let ns = names c.args.names.now in
    let a = place (node_at all c.args.n) in
    let X = node_at all c.in-Some.name in
    let P = node_at all c.in-Some.params in
    let R = node_at all c.in-Some.result in
    let s = c.in_err-result.field-0.0 in
    let named = (params_hold ns P c.in_ok-params.params c.params.new.vars c.in_ok-params.ensures.read).1 in
    failed c.from_residual-in_err-result.result s (λ stop. Stops stop (declared_asked term_kind a ns (nodes_from all c.args.rest))) c.from_residual-in_err-result.ensures.1
    (subst (λ l. Stops s (declared_asked term_kind a ns l)) (sym c.in-Some.ensures.3)
    (stops_after s (new_asked ns.terms X) (params_asked ns P >> result_asked ns (names_of (parts P)) R) (new_holds ns.terms X c.in_ok-name.name.now c.in_ok-name.ensures.read)
    (stops_after s (params_asked ns P) (result_asked ns (names_of (parts P)) R) ((params_hold ns P c.in_ok-params.params c.params.new.vars c.in_ok-params.ensures.read).0)
    (subst (λ vs. Stops s (result_asked ns vs R)) named c.in_err-result.ensures.stops))))
