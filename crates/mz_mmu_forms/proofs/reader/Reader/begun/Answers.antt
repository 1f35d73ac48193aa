use Rattle.std.proofs.Common.{◌∙◌, ap, sym, subst, refl, arith}
use Rattle.mz_logic_theory.specs.Tree.{app, followed_by}
use Rattle.mz_sexpr.specs.Number.{node_at, nodes_after}
use Rattle.mz_mmu_theory.specs.Cursor.{nodes_from, node_size}
use Rattle.mz_mmu_theory.specs.Expressions.{IsExpr}
use Rattle.mz_mmu_theory.specs.FormOrder.{expr_asked, exprs_asked, known_asked}
use Rattle.mz_mmu_forms.specs.ScopeView.{scope}
use Rattle.mz_mmu_theory.specs.Stops.{Stops}
use Rattle.mz_mmu_theory.proofs.Offered.{opened, list_of, stands_there, node_size_positive, known_holds}
use Rattle.mz_mmu_forms.proofs.Stopping.{failed, stops_before, stops_after}
use Rattle.mz_mmu_forms.proofs.reader.Reader.begun.Goals as goal

pub returns-then-is_atom-clause-says : goal.returns-then-is_atom-clause-says
returns-then-is_atom-clause-says c = c.in_ok-expr.ensures.read

pub returns-then-is_atom-clause-less : goal.returns-then-is_atom-clause-less
returns-then-is_atom-clause-less c = let one = node_size_positive (node_at c.args.self.now.nodes.now c.args.n) in omega (arith, one)

pub returns-in_err-expr-clause-stops : goal.returns-in_err-expr-clause-stops
returns-in_err-expr-clause-stops c =
    let m = node_at c.args.self.now.nodes.now c.args.n in
    failed c.from_residual.result c.in_err-expr.field-0.0 (λ stop. Stops stop (expr_asked (scope c.args.sc.now) m)) c.from_residual.ensures.1 c.in_err-expr.ensures.stops

pub returns-in_err-term-clause-stops : goal.returns-in_err-term-clause-stops
returns-in_err-term-clause-stops c =
    let all = c.args.self.now.nodes.now in
    let sc = scope c.args.sc.now in
    let m = node_at all c.args.n in
    let h = node_at all c.in-Some.head in
    let ns = nodes_after all c.in-Some.head in
    let s = c.in_err-term.field-0.0 in
    failed c.from_residual-in_err-term.result s (λ stop. Stops stop (expr_asked sc m)) c.from_residual-in_err-term.ensures.1
    (subst (λ x. Stops s (expr_asked sc x)) (sym (list_of m h ns c.in-Some.ensures.1))
    (stops_before s (known_asked sc.names.terms h) (exprs_asked sc ns) c.in_err-term.ensures.stops))

pub returns-clause-says : goal.returns-clause-says
returns-clause-says c =
    let all = c.args.self.now.nodes.now in
    let sc = scope c.args.sc.now in
    let m = node_at all c.args.n in
    let h = node_at all c.in-Some.head in
    let t = c.in_ok-term.term in
    let shape = opened all m c.in-Some.head c.next-left.result (sym c.is_atom.ensures ∙ c.if-is_atom.false) c.in-Some.ensures.1 c.next-left.ensures in (
      stands_there all c.next-left.result (nodes_after all c.in-Some.head) c.next-left.ensures,
      λ es r. subst (λ fs. IsExpr sc m (app t (followed_by fs es))) (sym c.new-operands.ensures)
          (subst (λ x. IsExpr sc x (app t es)) (sym shape) (t, es, c.in_ok-term.ensures.read, r, refl)),
      λ stop r. subst (λ x. Stops stop (expr_asked sc x)) (sym shape)
          (stops_after stop (known_asked sc.names.terms h) (exprs_asked sc (nodes_from all c.next-left.result)) (known_holds sc.names.terms h t c.in_ok-term.ensures.read) r),
    )

pub returns-clause-less : goal.returns-clause-less
returns-clause-less c =
    let all = c.args.self.now.nodes.now in
    let m = node_at all c.args.n in
    let shape = opened all m c.in-Some.head c.next-left.result (sym c.is_atom.ensures ∙ c.if-is_atom.false) c.in-Some.ensures.1 c.next-left.ensures in
    let sizes = ap node_size shape in
    let first = node_size_positive (node_at all c.in-Some.head) in
    omega (arith, sizes, first)
