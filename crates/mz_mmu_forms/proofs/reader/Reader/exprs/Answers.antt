use Rattle.std.proofs.Common.{ap, sym, subst, refl}
use Rattle.mz_logic_theory.specs.Tree.{none}
use Rattle.mz_logic_theory.specs.View.{tree}
use Rattle.mz_logic_theory.proofs.Offered.{followed_by_none}
use Rattle.mz_sexpr.specs.Number.{node_at, nodes_after}
use Rattle.mz_mmu_theory.specs.Cursor.{nodes_from}
use Rattle.mz_mmu_theory.specs.Expressions.{AreExprs}
use Rattle.mz_mmu_theory.specs.FormOrder.{expr_asked, exprs_asked}
use Rattle.mz_mmu_forms.specs.ScopeView.{scope}
use Rattle.mz_mmu_theory.specs.Stops.{Stops}
use Rattle.mz_mmu_theory.proofs.Offered.{stepped, stands_there}
use Rattle.mz_mmu_forms.proofs.ExprLists.{exprs_read_more, exprs_asked_more}
use Rattle.mz_mmu_forms.proofs.Stopping.{failed, stops_before, stops_whole}
use Rattle.mz_mmu_forms.proofs.reader.Reader.exprs.Goals as goal

pub returns-in_err-expr-clause-stops : goal.returns-in_err-expr-clause-stops
returns-in_err-expr-clause-stops c =
    let all = c.args.self.now.nodes.now in
    let sc = scope c.args.sc.now in
    let s = c.in_err-expr.field-0.0 in
    let m = node_at all c.in-Some.n in
    failed c.from_residual.result s (λ stop. Stops stop (exprs_asked sc (nodes_from all c.args.first))) c.from_residual.ensures.1
    (stops_whole s (exprs_asked sc (nodes_from all c.loop-left.left)) (exprs_asked sc (nodes_from all c.args.first)) c.loop-left.invariant.asked
    (subst (λ ns. Stops s (exprs_asked sc ns)) (sym (ap (nodes_from all) c.in-Some.is))
    (stops_before s (expr_asked sc m) (exprs_asked sc (nodes_after all c.in-Some.n)) c.in_err-expr.ensures.stops)))

pub loop-left-preserved : goal.loop-left-preserved
loop-left-preserved c =
    let all = c.args.self.now.nodes.now in
    let sc = scope c.args.sc.now in
    let step = stepped all c.loop-left.left c.in-Some.n c.next-left.result c.in-Some.is c.next-left.ensures in
    record {
      there = stands_there all c.next-left.result (nodes_after all c.in-Some.n) c.next-left.ensures;
      read = exprs_read_more sc (nodes_from all c.loop-left.left) (nodes_from all c.args.first) (nodes_from all c.next-left.result) (node_at all c.in-Some.n) step (tree c.in_ok-expr.expr) c.in_ok-expr.ensures.read
          c.loop-left.exprs c.push.new.self c.in_ok-push.ensures.ok c.loop-left.invariant.read;
      asked = exprs_asked_more sc (nodes_from all c.loop-left.left) (nodes_from all c.args.first) (nodes_from all c.next-left.result) (node_at all c.in-Some.n) step (tree c.in_ok-expr.expr) c.in_ok-expr.ensures.read
          c.loop-left.invariant.asked;
    }

pub returns-clause-read : goal.returns-clause-read
returns-clause-read c =
    let all = c.args.self.now.nodes.now in
    let sc = scope c.args.sc.now in
    subst (AreExprs sc (nodes_from all c.args.first)) (followed_by_none c.loop-left.exprs)
    (c.loop-left.invariant.read none (subst (λ ns. AreExprs sc ns none) (sym (ap (nodes_from all) c.in_default.is)) refl))
