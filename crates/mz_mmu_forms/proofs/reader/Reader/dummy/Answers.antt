use Rattle.std.proofs.Common.{◌∙◌, refl, sym, subst, true}
use Rattle.mz_sexpr.specs.Node.{node, no_nodes, parts}
use Rattle.mz_sexpr.specs.Number.{node_at}
use Rattle.mz_mmu_theory.specs.Expressions.{IsDummy}
use Rattle.mz_mmu_theory.specs.FormOrder.{dummy_asked, new_asked, known_asked}
use Rattle.mz_mmu_forms.specs.ScopeView.{names}
use Rattle.mz_mmu_theory.specs.Stops.{Stops}
use Rattle.mz_mmu_theory.proofs.Offered.{stands_from, list_of, new_holds}
use Rattle.mz_mmu_forms.proofs.Stopping.{failed, stops_before, stops_after}
use Rattle.mz_mmu_forms.proofs.reader.Reader.dummy.Goals as goal

pub returns-in_err-name-clause-stops : goal.returns-in_err-name-clause-stops
returns-in_err-name-clause-stops c =
    let all = c.args.self.now.nodes.now in
    let ns = names c.args.names.now in
    let vars = c.args.vars.now in
    let m = node_at all c.args.n in
    let s = c.in_err-name.field-0.0 in
    let x = node_at all c.in-Some.name in
    let y = node_at all c.in-Some.sort in
    let is = stands_from all c.first.result (parts m) c.first.ensures ∙ c.in-Some.ensures.2 in
    failed c.from_residual.result s (λ stop. Stops stop (dummy_asked ns vars m)) c.from_residual.ensures.1
    (subst (λ l. Stops s (dummy_asked ns vars l)) (sym (list_of m x (node y no_nodes) is)) (stops_before s (new_asked vars x) (known_asked ns.sorts y) c.in_err-name.ensures.stops))

pub returns-in_err-sort-clause-stops : goal.returns-in_err-sort-clause-stops
returns-in_err-sort-clause-stops c =
    let all = c.args.self.now.nodes.now in
    let ns = names c.args.names.now in
    let vars = c.args.vars.now in
    let m = node_at all c.args.n in
    let s = c.in_err-sort.field-0.0 in
    let x = node_at all c.in-Some.name in
    let y = node_at all c.in-Some.sort in
    let is = stands_from all c.first.result (parts m) c.first.ensures ∙ c.in-Some.ensures.2 in
    failed c.from_residual-in_err-sort.result s (λ stop. Stops stop (dummy_asked ns vars m)) c.from_residual-in_err-sort.ensures.1
    (subst (λ l. Stops s (dummy_asked ns vars l)) (sym (list_of m x (node y no_nodes) is))
    (stops_after s (new_asked vars x) (known_asked ns.sorts y) (new_holds vars x c.in_ok-name.name.now c.in_ok-name.ensures.read) c.in_err-sort.ensures.stops))

pub returns-clause-read : goal.returns-clause-read
returns-clause-read c =
    let all = c.args.self.now.nodes.now in
    let ns = names c.args.names.now in
    let vars = c.args.vars.now in
    let m = node_at all c.args.n in
    let x = node_at all c.in-Some.name in
    let y = node_at all c.in-Some.sort in
    let is = stands_from all c.first.result (parts m) c.first.ensures ∙ c.in-Some.ensures.2 in
    subst (λ l. IsDummy ns vars l c.in_ok-name.name.now (record { sort = c.in_ok-sort.sort; bound = true; deps = c.new-deps.result })) (sym (list_of m x (node y no_nodes) is))
    (c.in_ok-name.ensures.read, c.in_ok-sort.ensures.read, refl, c.new-deps.ensures)
