use Rattle.std.proofs.Common.{◌++◌, ap, sym, subst, arith, length}
use Rattle.mz_base.specs.Checks.{◌>>◌}
use Rattle.mz_sexpr.specs.Node.{place, parts}
use Rattle.mz_sexpr.specs.Number.{node_at}
use Rattle.mz_mmu_theory.specs.Cursor.{nodes_from, nodes_size}
use Rattle.mz_mmu_theory.specs.Expressions.{IsResult}
use Rattle.mz_mmu_theory.specs.declared.kind.Kind.TheVariants.{Def as def_kind}
use Rattle.mz_mmu_theory.specs.Name.{scope_of}
use Rattle.mz_mmu_theory.specs.FormOrder.{new_asked, params_asked, result_asked, dummies_asked, expr_asked, names_of}
use Rattle.mz_mmu_theory.specs.StatementOrder.{declared_asked}
use Rattle.mz_mmu_forms.specs.ScopeView.{names}
use Rattle.mz_mmu_theory.specs.Stops.{Stops}
use Rattle.mz_mmu_theory.proofs.Offered.{names_few, new_holds, params_hold, result_holds}
use Rattle.mz_mmu_forms.proofs.Offered.{failed, stops_before, stops_after}
use Rattle.mz_mmu.proofs.statements.def.Goals as goal

pub returns-in_err-params-clause-stops : goal.returns-in_err-params-clause-stops
returns-in_err-params-clause-stops c =
    let all = c.args.reader.now.nodes.now in
    let ns = names c.args.names.now in
    let a = place (node_at all c.args.n) in
    let X = node_at all c.in-Some.name in
    let P = node_at all c.in-Some.params in
    let R = node_at all c.in-Some.result in
    let D = node_at all c.in-Some.dummies in
    let B = node_at all c.in-Some.body in
    let s = c.in_err-params.field-0.0 in
    failed c.from_residual-in_err-params.result s (λ stop. Stops stop (declared_asked def_kind a ns (nodes_from all c.args.rest))) c.from_residual-in_err-params.ensures.1
    (subst (λ l. Stops s (declared_asked def_kind a ns l)) (sym c.in-Some.ensures.5)
    (stops_after s (new_asked ns.terms X) (params_asked ns P >> result_asked ns (names_of (parts P)) R >> dummies_asked ns (names_of (parts P)) D >> expr_asked (scope_of ns (names_of (parts P) ++ names_of (parts D))) B) (new_holds ns.terms X c.in_ok-name.name.now c.in_ok-name.ensures.read)
    (stops_before s (params_asked ns P) (result_asked ns (names_of (parts P)) R >> dummies_asked ns (names_of (parts P)) D >> expr_asked (scope_of ns (names_of (parts P) ++ names_of (parts D))) B) c.in_err-params.ensures.stops)))

pub returns-in_err-result-clause-stops : goal.returns-in_err-result-clause-stops
returns-in_err-result-clause-stops c =
    let all = c.args.reader.now.nodes.now in
    let ns = names c.args.names.now in
    let a = place (node_at all c.args.n) in
    let X = node_at all c.in-Some.name in
    let P = node_at all c.in-Some.params in
    let R = node_at all c.in-Some.result in
    let D = node_at all c.in-Some.dummies in
    let B = node_at all c.in-Some.body in
    let s = c.in_err-result.field-0.0 in
    let named = (params_hold ns P c.in_ok-params.params c.params.new.vars c.in_ok-params.ensures.read).1 in
    failed c.from_residual-in_err-result.result s (λ stop. Stops stop (declared_asked def_kind a ns (nodes_from all c.args.rest))) c.from_residual-in_err-result.ensures.1
    (subst (λ l. Stops s (declared_asked def_kind a ns l)) (sym c.in-Some.ensures.5)
    (stops_after s (new_asked ns.terms X) (params_asked ns P >> result_asked ns (names_of (parts P)) R >> dummies_asked ns (names_of (parts P)) D >> expr_asked (scope_of ns (names_of (parts P) ++ names_of (parts D))) B) (new_holds ns.terms X c.in_ok-name.name.now c.in_ok-name.ensures.read)
    (stops_after s (params_asked ns P) (result_asked ns (names_of (parts P)) R >> dummies_asked ns (names_of (parts P)) D >> expr_asked (scope_of ns (names_of (parts P) ++ names_of (parts D))) B) ((params_hold ns P c.in_ok-params.params c.params.new.vars c.in_ok-params.ensures.read).0)
    (stops_before s (result_asked ns (names_of (parts P)) R) (dummies_asked ns (names_of (parts P)) D >> expr_asked (scope_of ns (names_of (parts P) ++ names_of (parts D))) B) (subst (λ vs. Stops s (result_asked ns vs R)) named c.in_err-result.ensures.stops)))))

pub returns-in_err-dummies-clause-stops : goal.returns-in_err-dummies-clause-stops
returns-in_err-dummies-clause-stops c =
    let all = c.args.reader.now.nodes.now in
    let ns = names c.args.names.now in
    let a = place (node_at all c.args.n) in
    let X = node_at all c.in-Some.name in
    let P = node_at all c.in-Some.params in
    let R = node_at all c.in-Some.result in
    let D = node_at all c.in-Some.dummies in
    let B = node_at all c.in-Some.body in
    let s = c.in_err-dummies.field-0.0 in
    let named = (params_hold ns P c.in_ok-params.params c.params.new.vars c.in_ok-params.ensures.read).1 in
    failed c.from_residual-in_err-dummies.result s (λ stop. Stops stop (declared_asked def_kind a ns (nodes_from all c.args.rest))) c.from_residual-in_err-dummies.ensures.1
    (subst (λ l. Stops s (declared_asked def_kind a ns l)) (sym c.in-Some.ensures.5)
    (stops_after s (new_asked ns.terms X) (params_asked ns P >> result_asked ns (names_of (parts P)) R >> dummies_asked ns (names_of (parts P)) D >> expr_asked (scope_of ns (names_of (parts P) ++ names_of (parts D))) B) (new_holds ns.terms X c.in_ok-name.name.now c.in_ok-name.ensures.read)
    (stops_after s (params_asked ns P) (result_asked ns (names_of (parts P)) R >> dummies_asked ns (names_of (parts P)) D >> expr_asked (scope_of ns (names_of (parts P) ++ names_of (parts D))) B) ((params_hold ns P c.in_ok-params.params c.params.new.vars c.in_ok-params.ensures.read).0)
    (stops_after s (result_asked ns (names_of (parts P)) R) (dummies_asked ns (names_of (parts P)) D >> expr_asked (scope_of ns (names_of (parts P) ++ names_of (parts D))) B) (result_holds ns (names_of (parts P)) R c.in_ok-result.result (subst (λ vs. IsResult ns vs R c.in_ok-result.result) named c.in_ok-result.ensures.read))
    (subst (λ vs. Stops s (dummies_asked ns vs D >> expr_asked (scope_of ns (vs ++ names_of (parts D))) B)) named c.in_err-dummies.ensures.stops)))))

pub defined-requires-clause-few_dummies : goal.defined-requires-clause-few_dummies
defined-requires-clause-few_dummies c =
    let all = c.args.reader.now.nodes.now in
    let P = node_at all c.in-Some.params in
    let named = ap length (params_hold (names c.args.names.now) P c.in_ok-params.params c.params.new.vars c.in_ok-params.ensures.read).1 in
    let few = names_few P in
    let sizes = ap nodes_size c.in-Some.ensures.5 in
    omega (arith, named, few, sizes, c.requires.few)
