use Rattle.std.proofs.Common.{ap, sym, subst, refl, arith, [], ◌∷◌, ◌++◌, length}
use Rattle.mz_base.proofs.Offered.{length-push}
use Rattle.mz_logic_theory.specs.Tree.{none}
use Rattle.mz_logic_theory.specs.View.{tree}
use Rattle.mz_logic_theory.proofs.Offered.{followed_by_none}
use Rattle.mz_sexpr.specs.Node.{parts}
use Rattle.mz_sexpr.specs.Number.{node_at, nodes_after}
use Rattle.mz_mmu_theory.specs.Cursor.{nodes_from, nodes_size}
use Rattle.mz_mmu_theory.specs.Statements.{AreHyps, AreNamedHyps}
use Rattle.mz_mmu_theory.specs.StatementOrder.{hyp_asked, hyps_asked}
use Rattle.mz_mmu_theory.specs.FormOrder.{binders_asked, first_word}
use Rattle.mz_mmu_forms.specs.ScopeView.{scope}
use Rattle.mz_mmu_theory.specs.Stops.{Stops}
use Rattle.mz_mmu_theory.proofs.Offered.{stepped, stands_there, node_size_positive, hyp_new}
use Rattle.mz_mmu_forms.proofs.Offered.{failed, stops_before, stops_whole}
use Rattle.mz_mmu.proofs.HypLists.{hyps_read_more, hyps_asked_more}
use Rattle.mz_mmu.proofs.statements.push_hyps.Goals as goal

pub returns-in_err-name-clause-stops : goal.returns-in_err-name-clause-stops
returns-in_err-name-clause-stops c =
    let all = c.args.reader.now.nodes.now in
    let sc = scope c.args.sc.now in
    let s = c.in_err-name.field-0.0 in
    let m = node_at all c.in-Some.m in
    let labels = c.loop-left.labels in
    let whole = hyps_asked sc (node_at all c.args.n) in
    failed c.from_residual-in_err-name.result s (λ stop. Stops stop whole) c.from_residual-in_err-name.ensures.1
    (stops_whole s (binders_asked (hyp_asked sc) labels (nodes_from all c.loop-left.left)) whole c.loop-left.invariant.asked
    (subst (λ l. Stops s (binders_asked (hyp_asked sc) labels l)) (sym (ap (nodes_from all) c.in-Some.is))
    (stops_before s (hyp_asked sc labels m) (binders_asked (hyp_asked sc) (labels ++ first_word (parts m) ∷ []) (nodes_after all c.in-Some.m)) c.in_err-name.ensures.stops)))

pub push-requires-clause-name : goal.push-requires-clause-name
push-requires-clause-name c = (hyp_new (scope c.args.sc.now) c.loop-left.labels (node_at c.args.reader.now.nodes.now c.in-Some.m) c.in_ok-name.name.now (tree c.in_ok-name.expr) c.in_ok-name.ensures.read).0

pub push-requires-clause-new : goal.push-requires-clause-new
push-requires-clause-new c = (hyp_new (scope c.args.sc.now) c.loop-left.labels (node_at c.args.reader.now.nodes.now c.in-Some.m) c.in_ok-name.name.now (tree c.in_ok-name.expr) c.in_ok-name.ensures.read).1

pub loop-left-preserved : goal.loop-left-preserved
loop-left-preserved c =
    let all = c.args.reader.now.nodes.now in
    let sc = scope c.args.sc.now in
    let m = node_at all c.in-Some.m in
    let step = stepped all c.loop-left.left c.in-Some.m c.next-left.result c.in-Some.is c.next-left.ensures in
    let sizes = ap nodes_size step in
    let one = node_size_positive m in
    let more = ap length c.in_ok-push.ensures in
    let many = length-push c.loop-left.labels c.in_ok-name.name.now in
    record {
      there = stands_there all c.next-left.result (nodes_after all c.in-Some.m) c.next-left.ensures;
      few = omega (arith, sizes, one, more, many, c.loop-left.invariant.few);
      read = hyps_read_more sc c.loop-left.labels c.push.new.self (nodes_from all c.loop-left.left) (nodes_from all c.next-left.result) m step
          c.in_ok-name.name.now (tree c.in_ok-name.expr) c.in_ok-name.ensures.read c.in_ok-push.ensures
          (AreNamedHyps sc (node_at all c.args.n)) c.loop-left.hyps c.push-in-Some.new.self c.in_ok-push-2.ensures.ok c.loop-left.invariant.read;
      asked = hyps_asked_more sc c.loop-left.labels c.push.new.self (nodes_from all c.loop-left.left) (nodes_from all c.next-left.result) m step
          c.in_ok-name.name.now (tree c.in_ok-name.expr) c.in_ok-name.ensures.read c.in_ok-push.ensures
          (hyps_asked sc (node_at all c.args.n)) c.loop-left.invariant.asked;
    }

pub returns-clause-read : goal.returns-clause-read
returns-clause-read c =
    let all = c.args.reader.now.nodes.now in
    let sc = scope c.args.sc.now in
    subst (λ es. AreNamedHyps sc (node_at all c.args.n) es c.loop-left.labels) (followed_by_none c.loop-left.hyps)
    (c.loop-left.invariant.read none c.loop-left.labels (subst (λ l. AreHyps sc c.loop-left.labels l none c.loop-left.labels) (sym (ap (nodes_from all) c.in_default.is)) (refl, refl)))
