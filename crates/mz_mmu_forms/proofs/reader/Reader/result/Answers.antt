use Rattle.std.proofs.Common.{◌∙◌, sym, subst}
use Rattle.mz_sexpr.specs.Node.{node, no_nodes, parts}
use Rattle.mz_sexpr.specs.Number.{node_at}
use Rattle.mz_mmu_theory.specs.Expressions.{IsResult}
use Rattle.mz_mmu_theory.specs.FormOrder.{result_asked, known_asked, variable_list_asked}
use Rattle.mz_mmu_forms.specs.ScopeView.{names}
use Rattle.mz_mmu_theory.specs.Stops.{Stops}
use Rattle.mz_mmu_theory.proofs.Offered.{stands_from, list_of, known_holds}
use Rattle.mz_mmu_forms.proofs.Stopping.{failed, stops_before, stops_after}
use Rattle.mz_mmu_forms.proofs.reader.Reader.result.Goals as goal

pub returns-in_err-sort-clause-stops : goal.returns-in_err-sort-clause-stops
returns-in_err-sort-clause-stops c =
    let all = c.args.self.now.nodes.now in
    let ns = names c.args.names.now in
    let vars = c.args.vars.now in
    let m = node_at all c.args.n in
    let s = c.in_err-sort.field-0.0 in
    let x = node_at all c.in-Some.sort in
    let y = node_at all c.in-Some.deps in
    let is = stands_from all c.first.result (parts m) c.first.ensures ∙ c.in-Some.ensures.2 in
    failed c.from_residual.result s (λ stop. Stops stop (result_asked ns vars m)) c.from_residual.ensures.1
    (subst (λ l. Stops s (result_asked ns vars l)) (sym (list_of m x (node y no_nodes) is)) (stops_before s (known_asked ns.sorts x) (variable_list_asked vars y) c.in_err-sort.ensures.stops))

pub returns-in_err-deps-clause-stops : goal.returns-in_err-deps-clause-stops
returns-in_err-deps-clause-stops c =
    let all = c.args.self.now.nodes.now in
    let ns = names c.args.names.now in
    let vars = c.args.vars.now in
    let m = node_at all c.args.n in
    let s = c.in_err-deps.field-0.0 in
    let x = node_at all c.in-Some.sort in
    let y = node_at all c.in-Some.deps in
    let is = stands_from all c.first.result (parts m) c.first.ensures ∙ c.in-Some.ensures.2 in
    failed c.from_residual-in_err-deps.result s (λ stop. Stops stop (result_asked ns vars m)) c.from_residual-in_err-deps.ensures.1
    (subst (λ l. Stops s (result_asked ns vars l)) (sym (list_of m x (node y no_nodes) is))
    (stops_after s (known_asked ns.sorts x) (variable_list_asked vars y) (known_holds ns.sorts x c.in_ok-sort.sort c.in_ok-sort.ensures.read) c.in_err-deps.ensures.stops))

pub returns-clause-read : goal.returns-clause-read
returns-clause-read c =
    let all = c.args.self.now.nodes.now in
    let ns = names c.args.names.now in
    let vars = c.args.vars.now in
    let m = node_at all c.args.n in
    let x = node_at all c.in-Some.sort in
    let y = node_at all c.in-Some.deps in
    let is = stands_from all c.first.result (parts m) c.first.ensures ∙ c.in-Some.ensures.2 in
    subst (λ l. IsResult ns vars l (record { sort = c.in_ok-sort.sort; deps = c.in_ok-deps.deps })) (sym (list_of m x (node y no_nodes) is)) (c.in_ok-sort.ensures.read, c.in_ok-deps.ensures.read)
