use Rattle.std.proofs.Common.{◌∙◌, refl, sym, subst, true, false}
use Rattle.mz_base.specs.Checks.{◌>>◌}
use Rattle.mz_sexpr.specs.Node.{node, no_nodes, parts}
use Rattle.mz_sexpr.specs.Number.{node_at}
use Rattle.mz_mmu_theory.specs.Expressions.{IsParam}
use Rattle.mz_mmu_theory.specs.FormOrder.{param_asked, param_name_asked, known_asked, variable_list_asked}
use Rattle.mz_mmu_forms.specs.ScopeView.{names}
use Rattle.mz_mmu_theory.specs.Stops.{Stops}
use Rattle.mz_mmu_theory.proofs.Offered.{stands_from, list_of, param_name_holds, known_holds}
use Rattle.mz_mmu_forms.proofs.Stopping.{failed, stops_before, stops_after}
use Rattle.mz_mmu_forms.proofs.reader.Reader.param.Goals as goal

pub returns-in_err-deps-clause-stops : goal.returns-in_err-deps-clause-stops
returns-in_err-deps-clause-stops c =
    let all = c.args.self.now.nodes.now in
    let ns = names c.args.names.now in
    let vars = c.args.vars.now in
    let m = node_at all c.args.n in
    let s = c.in_err-deps.field-0.0 in
    let x = node_at all c.in-Some-three.name in
    let y = node_at all c.in-Some-three.sort in
    let z = node_at all c.in-Some-three.deps in
    let is = stands_from all c.first-first.result (parts m) c.first-first.ensures ∙ c.in-Some-three.ensures.3 in
    failed c.from_residual-in_err-deps.result s (λ stop. Stops stop (param_asked ns vars m)) c.from_residual-in_err-deps.ensures.1
    (subst (λ l. Stops s (param_asked ns vars l)) (sym (list_of m x (node y (node z no_nodes)) is))
    (stops_after s (param_name_asked vars x) (known_asked ns.sorts y >> variable_list_asked vars z) (param_name_holds vars x c.in_ok-name-2.name.now c.in_ok-name-2.ensures.read)
    (stops_after s (known_asked ns.sorts y) (variable_list_asked vars z) (known_holds ns.sorts y c.in_ok-sort-2.sort c.in_ok-sort-2.ensures.read) c.in_err-deps.ensures.stops)))

pub returns-in_err-sort-clause-stops : goal.returns-in_err-sort-clause-stops
returns-in_err-sort-clause-stops c =
    let all = c.args.self.now.nodes.now in
    let ns = names c.args.names.now in
    let vars = c.args.vars.now in
    let m = node_at all c.args.n in
    let s = c.in_err-sort.field-0.0 in
    let x = node_at all c.in-Some.name in
    let y = node_at all c.in-Some.sort in
    let is = stands_from all c.first-first.result (parts m) c.first-first.ensures ∙ c.in-Some.ensures.2 in
    failed c.from_residual-in_err-sort.result s (λ stop. Stops stop (param_asked ns vars m)) c.from_residual-in_err-sort.ensures.1
    (subst (λ l. Stops s (param_asked ns vars l)) (sym (list_of m x (node y no_nodes) is))
    (stops_after s (param_name_asked vars x) (known_asked ns.sorts y) (param_name_holds vars x c.in_ok-name.name.now c.in_ok-name.ensures.read) c.in_err-sort.ensures.stops))

pub returns-in_err-sort-2-clause-stops : goal.returns-in_err-sort-2-clause-stops
returns-in_err-sort-2-clause-stops c =
    let all = c.args.self.now.nodes.now in
    let ns = names c.args.names.now in
    let vars = c.args.vars.now in
    let m = node_at all c.args.n in
    let s = c.in_err-sort-2.field-0.0 in
    let x = node_at all c.in-Some-three.name in
    let y = node_at all c.in-Some-three.sort in
    let z = node_at all c.in-Some-three.deps in
    let is = stands_from all c.first-first.result (parts m) c.first-first.ensures ∙ c.in-Some-three.ensures.3 in
    failed c.from_residual-in_err-sort-2.result s (λ stop. Stops stop (param_asked ns vars m)) c.from_residual-in_err-sort-2.ensures.1
    (subst (λ l. Stops s (param_asked ns vars l)) (sym (list_of m x (node y (node z no_nodes)) is))
    (stops_after s (param_name_asked vars x) (known_asked ns.sorts y >> variable_list_asked vars z) (param_name_holds vars x c.in_ok-name-2.name.now c.in_ok-name-2.ensures.read)
    (stops_before s (known_asked ns.sorts y) (variable_list_asked vars z) c.in_err-sort-2.ensures.stops)))

pub returns-in_err-name-clause-stops : goal.returns-in_err-name-clause-stops
returns-in_err-name-clause-stops c =
    let all = c.args.self.now.nodes.now in
    let ns = names c.args.names.now in
    let vars = c.args.vars.now in
    let m = node_at all c.args.n in
    let s = c.in_err-name.field-0.0 in
    let x = node_at all c.in-Some.name in
    let y = node_at all c.in-Some.sort in
    let is = stands_from all c.first-first.result (parts m) c.first-first.ensures ∙ c.in-Some.ensures.2 in
    failed c.from_residual.result s (λ stop. Stops stop (param_asked ns vars m)) c.from_residual.ensures.1
    (subst (λ l. Stops s (param_asked ns vars l)) (sym (list_of m x (node y no_nodes) is)) (stops_before s (param_name_asked vars x) (known_asked ns.sorts y) c.in_err-name.ensures.stops))

pub returns-in_err-name-2-clause-stops : goal.returns-in_err-name-2-clause-stops
returns-in_err-name-2-clause-stops c =
    let all = c.args.self.now.nodes.now in
    let ns = names c.args.names.now in
    let vars = c.args.vars.now in
    let m = node_at all c.args.n in
    let s = c.in_err-name-2.field-0.0 in
    let x = node_at all c.in-Some-three.name in
    let y = node_at all c.in-Some-three.sort in
    let z = node_at all c.in-Some-three.deps in
    let is = stands_from all c.first-first.result (parts m) c.first-first.ensures ∙ c.in-Some-three.ensures.3 in
    failed c.from_residual-in_err-name-2.result s (λ stop. Stops stop (param_asked ns vars m)) c.from_residual-in_err-name-2.ensures.1
    (subst (λ l. Stops s (param_asked ns vars l)) (sym (list_of m x (node y (node z no_nodes)) is))
    (stops_before s (param_name_asked vars x) (known_asked ns.sorts y >> variable_list_asked vars z) c.in_err-name-2.ensures.stops))

pub returns-in-Some-clause-read : goal.returns-in-Some-clause-read
returns-in-Some-clause-read c =
    let all = c.args.self.now.nodes.now in
    let ns = names c.args.names.now in
    let vars = c.args.vars.now in
    let m = node_at all c.args.n in
    let x = node_at all c.in-Some.name in
    let y = node_at all c.in-Some.sort in
    let is = stands_from all c.first-first.result (parts m) c.first-first.ensures ∙ c.in-Some.ensures.2 in
    subst (λ l. IsParam ns vars l c.in_ok-name.name.now (record { sort = c.in_ok-sort.sort; bound = true; deps = c.new-deps.result })) (sym (list_of m x (node y no_nodes) is))
    (c.in_ok-name.ensures.read, c.in_ok-sort.ensures.read, refl, c.new-deps.ensures)

pub returns-clause-read : goal.returns-clause-read
returns-clause-read c =
    let all = c.args.self.now.nodes.now in
    let ns = names c.args.names.now in
    let vars = c.args.vars.now in
    let m = node_at all c.args.n in
    let x = node_at all c.in-Some-three.name in
    let y = node_at all c.in-Some-three.sort in
    let z = node_at all c.in-Some-three.deps in
    let is = stands_from all c.first-first.result (parts m) c.first-first.ensures ∙ c.in-Some-three.ensures.3 in
    subst (λ l. IsParam ns vars l c.in_ok-name-2.name.now (record { sort = c.in_ok-sort-2.sort; bound = false; deps = c.in_ok-deps.deps })) (sym (list_of m x (node y (node z no_nodes)) is))
    (c.in_ok-name-2.ensures.read, c.in_ok-sort-2.ensures.read, refl, c.in_ok-deps.ensures.read)
