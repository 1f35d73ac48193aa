use Rattle.std.proofs.Common.{◌++◌, [], ap, sym, subst, arith, length}
use Rattle.mz_base.specs.Checks.{◌>>◌}
use Rattle.mz_logic_theory.specs.View.{tree}
use Rattle.mz_sexpr.specs.Node.{place, parts}
use Rattle.mz_sexpr.specs.Number.{node_at}
use Rattle.mz_mmu_theory.specs.Cursor.{nodes_from, nodes_size}
use Rattle.mz_mmu_theory.specs.Expressions.{IsExpr}
use Rattle.mz_mmu_theory.specs.Statements.{AreNamedHyps}
use Rattle.mz_mmu_theory.specs.declared.kind.Kind.TheVariants.{Theorem as theorem_kind}
use Rattle.mz_mmu_theory.specs.Name.{scope_of}
use Rattle.mz_mmu_theory.specs.FormOrder.{new_asked, params_asked, dummies_asked, expr_asked, proof_asked, names_of}
use Rattle.mz_mmu_theory.specs.StatementOrder.{hyps_asked, declared_asked}
use Rattle.mz_mmu_forms.specs.ScopeView.{names}
use Rattle.mz_mmu_theory.specs.Stops.{Stops}
use Rattle.mz_mmu_theory.proofs.Offered.{names_few, new_holds, params_hold, expr_holds, hyps_hold, stops_front}
use Rattle.mz_mmu_forms.proofs.Offered.{failed, stops_before, stops_after}
use Rattle.mz_mmu.proofs.statements.theorem.Goals as goal

pub returns-in_err-params-clause-stops : goal.returns-in_err-params-clause-stops
returns-in_err-params-clause-stops c =
    let all = c.args.reader.now.nodes.now in
    let ns = names c.args.names.now in
    let a = place (node_at all c.args.n) in
    let X = node_at all c.in-Some.name in
    let P = node_at all c.in-Some.params in
    let vs = names_of (parts P) in
    let H = hyps_asked (scope_of ns vs) (node_at all c.in-Some.hyps) in
    let E = expr_asked (scope_of ns vs) (node_at all c.in-Some.conclusion) in
    let D = dummies_asked ns vs (node_at all c.in-Some.dummies) in
    let Q = proof_asked (scope_of ns (vs ++ names_of (parts (node_at all c.in-Some.dummies)))) (names_of (parts (node_at all c.in-Some.hyps))) [] (node_at all c.in-Some.proof) in
    let s = c.in_err-params.field-0.0 in
    failed c.from_residual-in_err-params.result s (λ stop. Stops stop (declared_asked theorem_kind a ns (nodes_from all c.args.rest))) c.from_residual-in_err-params.ensures.1
    (subst (λ l. Stops s (declared_asked theorem_kind a ns l)) (sym c.in-Some.ensures.6)
    (stops_after s (new_asked ns.assertions X) (params_asked ns P >> H >> E >> D >> Q) (new_holds ns.assertions X c.in_ok-name.name.now c.in_ok-name.ensures.read)
    (stops_before s (params_asked ns P) (H >> E >> D >> Q) c.in_err-params.ensures.stops)))

pub returns-in_err-hyps-clause-stops : goal.returns-in_err-hyps-clause-stops
returns-in_err-hyps-clause-stops c =
    let all = c.args.reader.now.nodes.now in
    let ns = names c.args.names.now in
    let a = place (node_at all c.args.n) in
    let X = node_at all c.in-Some.name in
    let P = node_at all c.in-Some.params in
    let vs = names_of (parts P) in
    let h = node_at all c.in-Some.hyps in
    let e = node_at all c.in-Some.conclusion in
    let H = hyps_asked (scope_of ns vs) h in
    let E = expr_asked (scope_of ns vs) e in
    let D = dummies_asked ns vs (node_at all c.in-Some.dummies) in
    let Q = proof_asked (scope_of ns (vs ++ names_of (parts (node_at all c.in-Some.dummies)))) (names_of (parts h)) [] (node_at all c.in-Some.proof) in
    let s = c.in_err-hyps.field-0.0 in
    let named = params_hold ns P c.in_ok-params.params c.params.new.vars c.in_ok-params.ensures.read in
    failed c.from_residual-in_err-hyps.result s (λ stop. Stops stop (declared_asked theorem_kind a ns (nodes_from all c.args.rest))) c.from_residual-in_err-hyps.ensures.1
    (subst (λ l. Stops s (declared_asked theorem_kind a ns l)) (sym c.in-Some.ensures.6)
    (stops_after s (new_asked ns.assertions X) (params_asked ns P >> H >> E >> D >> Q) (new_holds ns.assertions X c.in_ok-name.name.now c.in_ok-name.ensures.read)
    (stops_after s (params_asked ns P) (H >> E >> D >> Q) named.0
    (stops_front s H E (D >> Q) (subst (λ us. Stops s (hyps_asked (scope_of ns us) h >> expr_asked (scope_of ns us) e)) named.1 c.in_err-hyps.ensures.stops)))))

pub returns-in_err-dummies-clause-stops : goal.returns-in_err-dummies-clause-stops
returns-in_err-dummies-clause-stops c =
    let all = c.args.reader.now.nodes.now in
    let ns = names c.args.names.now in
    let a = place (node_at all c.args.n) in
    let X = node_at all c.in-Some.name in
    let P = node_at all c.in-Some.params in
    let vs = names_of (parts P) in
    let h = node_at all c.in-Some.hyps in
    let e = node_at all c.in-Some.conclusion in
    let d = node_at all c.in-Some.dummies in
    let q = node_at all c.in-Some.proof in
    let H = hyps_asked (scope_of ns vs) h in
    let E = expr_asked (scope_of ns vs) e in
    let D = dummies_asked ns vs d in
    let Q = proof_asked (scope_of ns (vs ++ names_of (parts d))) (names_of (parts h)) [] q in
    let s = c.in_err-dummies.field-0.0 in
    let named = params_hold ns P c.in_ok-params.params c.params.new.vars c.in_ok-params.ensures.read in
    let labelled = hyps_hold (scope_of ns vs) h c.in_ok-hyps.hyps c.claims.new.labels (subst (λ us. AreNamedHyps (scope_of ns us) h c.in_ok-hyps.hyps c.claims.new.labels) named.1 c.in_ok-hyps.ensures.read.0) in
    failed c.from_residual-in_err-dummies.result s (λ stop. Stops stop (declared_asked theorem_kind a ns (nodes_from all c.args.rest))) c.from_residual-in_err-dummies.ensures.1
    (subst (λ l. Stops s (declared_asked theorem_kind a ns l)) (sym c.in-Some.ensures.6)
    (stops_after s (new_asked ns.assertions X) (params_asked ns P >> H >> E >> D >> Q) (new_holds ns.assertions X c.in_ok-name.name.now c.in_ok-name.ensures.read)
    (stops_after s (params_asked ns P) (H >> E >> D >> Q) named.0
    (stops_after s H (E >> D >> Q) labelled.0
    (stops_after s E (D >> Q) (expr_holds (scope_of ns vs) e (tree c.in_ok-hyps.conclusion) (subst (λ us. IsExpr (scope_of ns us) e (tree c.in_ok-hyps.conclusion)) named.1 c.in_ok-hyps.ensures.read.1))
    (subst (λ us. Stops s (dummies_asked ns us d >> proof_asked (scope_of ns (us ++ names_of (parts d))) (names_of (parts h)) [] q)) named.1
    (subst (λ ls. Stops s (dummies_asked ns c.params.new.vars d >> proof_asked (scope_of ns (c.params.new.vars ++ names_of (parts d))) ls [] q)) labelled.1 c.in_err-dummies.ensures.stops)))))))

pub proved-requires-clause-few_dummies : goal.proved-requires-clause-few_dummies
proved-requires-clause-few_dummies c =
    let all = c.args.reader.now.nodes.now in
    let P = node_at all c.in-Some.params in
    let named = ap length (params_hold (names c.args.names.now) P c.in_ok-params.params c.params.new.vars c.in_ok-params.ensures.read).1 in
    let few = names_few P in
    let sizes = ap nodes_size c.in-Some.ensures.6 in
    omega (arith, named, few, sizes, c.requires.few)
