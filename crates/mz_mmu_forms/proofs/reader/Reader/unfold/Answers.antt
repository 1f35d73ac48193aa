use Rattle.std.proofs.Common.{sym, subst}
use Rattle.mz_base.specs.Checks.{◌>>◌}
use Rattle.mz_sexpr.specs.Node.{Node, place}
use Rattle.mz_sexpr.specs.Number.{node_at}
use Rattle.mz_mmu_theory.specs.Cursor.{nodes_from}
use Rattle.mz_mmu_theory.specs.Expressions.{IsVariableList}
use Rattle.mz_mmu_theory.specs.declared.keyword.Keyword.TheVariants.{Unfold as unfold_word}
use Rattle.mz_mmu_theory.specs.FormOrder.{known_asked, expr_list_asked, variable_list_asked, conv_asked, conv_asked_by}
use Rattle.mz_mmu_forms.specs.ScopeView.{scope}
use Rattle.mz_mmu_theory.specs.Stops.{Stops}
use Rattle.mz_mmu_forms.proofs.ConvNesting.{unfold_waits, unfold_fewer}
use Rattle.mz_mmu_theory.proofs.Offered.{known_holds, expr_list_holds}
use Rattle.mz_mmu_forms.proofs.Stopping.{failed, stops_before, stops_after}
use Rattle.mz_mmu_forms.proofs.reader.Reader.unfold.Goals as goal

pub returns-in_err-operands-clause-stops : goal.returns-in_err-operands-clause-stops
returns-in_err-operands-clause-stops c =
    let all = c.args.self.now.nodes.now in
    let sc = scope c.args.sc.now in
    let a = place (node_at all c.args.n) in
    let x = node_at all c.in-Some.term in
    let y = node_at all c.in-Some.operands in
    let z = node_at all c.in-Some.vars in
    let p = node_at all c.in-Some.part in
    let s = c.in_err-operands.field-0.0 in
    failed c.from_residual-in_err-operands.result s (λ stop. (h : Node) → Stops stop (conv_asked_by sc unfold_word a h (nodes_from all c.args.rest))) c.from_residual-in_err-operands.ensures.1
    (λ h. subst (λ l. Stops s (conv_asked_by sc unfold_word a h l)) (sym c.in-Some.ensures.4)
    (stops_after s (known_asked sc.names.terms x) (expr_list_asked sc y >> variable_list_asked sc.vars z >> conv_asked sc p) (known_holds sc.names.terms x c.in_ok-term.term c.in_ok-term.ensures.read)
    (stops_before s (expr_list_asked sc y) (variable_list_asked sc.vars z >> conv_asked sc p) c.in_err-operands.ensures.stops)))

pub returns-in_err-vars-clause-stops : goal.returns-in_err-vars-clause-stops
returns-in_err-vars-clause-stops c =
    let all = c.args.self.now.nodes.now in
    let sc = scope c.args.sc.now in
    let a = place (node_at all c.args.n) in
    let x = node_at all c.in-Some.term in
    let y = node_at all c.in-Some.operands in
    let z = node_at all c.in-Some.vars in
    let p = node_at all c.in-Some.part in
    let s = c.in_err-vars.field-0.0 in
    failed c.from_residual-in_err-vars.result s (λ stop. (h : Node) → Stops stop (conv_asked_by sc unfold_word a h (nodes_from all c.args.rest))) c.from_residual-in_err-vars.ensures.1
    (λ h. subst (λ l. Stops s (conv_asked_by sc unfold_word a h l)) (sym c.in-Some.ensures.4)
    (stops_after s (known_asked sc.names.terms x) (expr_list_asked sc y >> variable_list_asked sc.vars z >> conv_asked sc p) (known_holds sc.names.terms x c.in_ok-term.term c.in_ok-term.ensures.read)
    (stops_after s (expr_list_asked sc y) (variable_list_asked sc.vars z >> conv_asked sc p) (expr_list_holds sc y c.in_ok-operands.operands c.in_ok-operands.ensures.read)
    (stops_before s (variable_list_asked sc.vars z) (conv_asked sc p) c.in_err-vars.ensures.stops))))

pub returns-clause-says : goal.returns-clause-says
returns-clause-says c = λ h.
    let all = c.args.self.now.nodes.now in
    let sc = scope c.args.sc.now in
    let ns = nodes_from all c.args.rest in
    let node = node_at all in (
      c.in-Some.ensures.3,
      unfold_waits sc all ns (place (node c.args.n)) h (node c.in-Some.term) (node c.in-Some.operands) (node c.in-Some.vars) (node c.in-Some.part)
          c.in_ok-term.term c.in_ok-operands.operands c.from_vec.result c.in-Some.ensures.4 c.in_ok-term.ensures.read c.in_ok-operands.ensures.read
          (subst (IsVariableList sc.vars (node c.in-Some.vars)) (sym c.from_vec.ensures) c.in_ok-vars.ensures.read),
    )

pub returns-clause-less : goal.returns-clause-less
returns-clause-less c =
    let all = c.args.self.now.nodes.now in
    let node = node_at all in
    unfold_fewer (nodes_from all c.args.rest) (node c.in-Some.term) (node c.in-Some.operands) (node c.in-Some.vars) (node c.in-Some.part) c.in-Some.ensures.4
