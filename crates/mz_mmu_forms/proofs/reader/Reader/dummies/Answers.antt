use Rattle.std.proofs.Common.{ap, sym, subst, refl, arith, [], ◌∷◌, ◌++◌, length, append-nil}
use Rattle.mz_base.proofs.Offered.{length-push}
use Rattle.mz_sexpr.specs.Number.{node_at, nodes_after}
use Rattle.mz_mmu_theory.specs.Cursor.{nodes_from, nodes_size}
use Rattle.mz_mmu_theory.specs.Expressions.{IsDummy, AreBinders, AreDummies}
use Rattle.mz_mmu_theory.specs.FormOrder.{dummy_asked, binders_asked, dummies_asked, first_word}
use Rattle.mz_mmu_forms.specs.ScopeView.{names}
use Rattle.mz_mmu_theory.specs.Stops.{Stops}
use Rattle.mz_sexpr.specs.Node.{parts}
use Rattle.mz_mmu_theory.proofs.Offered.{stepped, stands_there, node_size_positive, dummy_holds, dummy_word, dummy_new}
use Rattle.mz_mmu_forms.proofs.BinderLists.{binders_read_more, binders_asked_more}
use Rattle.mz_mmu_forms.proofs.Stopping.{failed, stops_before, stops_whole}
use Rattle.mz_mmu_forms.proofs.reader.Reader.dummies.Goals as goal

pub returns-in_err-name-clause-stops : goal.returns-in_err-name-clause-stops
returns-in_err-name-clause-stops c =
    let all = c.args.self.now.nodes.now in
    let ns = names c.args.names.now in
    let s = c.in_err-name.field-0.0 in
    let m = node_at all c.in-Some.m in
    let vars = c.loop-left.vars in
    let whole = dummies_asked ns c.args.vars.now (node_at all c.args.n) in
    failed c.from_residual-in_err-name.result s (λ stop. Stops stop whole) c.from_residual-in_err-name.ensures.1
    (stops_whole s (binders_asked (dummy_asked ns) vars (nodes_from all c.loop-left.left)) whole c.loop-left.invariant.asked
    (subst (λ l. Stops s (binders_asked (dummy_asked ns) vars l)) (sym (ap (nodes_from all) c.in-Some.is))
    (stops_before s (dummy_asked ns vars m) (binders_asked (dummy_asked ns) (vars ++ first_word (parts m) ∷ []) (nodes_after all c.in-Some.m)) c.in_err-name.ensures.stops)))

pub push-requires-clause-name : goal.push-requires-clause-name
push-requires-clause-name c =
    (dummy_new (names c.args.names.now) c.loop-left.vars (node_at c.args.self.now.nodes.now c.in-Some.m) c.in_ok-name.name.now c.in_ok-name.dummy c.in_ok-name.ensures.read).0

pub push-requires-clause-new : goal.push-requires-clause-new
push-requires-clause-new c =
    (dummy_new (names c.args.names.now) c.loop-left.vars (node_at c.args.self.now.nodes.now c.in-Some.m) c.in_ok-name.name.now c.in_ok-name.dummy c.in_ok-name.ensures.read).1

pub loop-left-smaller : goal.loop-left-smaller
loop-left-smaller c =
    let all = c.args.self.now.nodes.now in
    let sizes = ap nodes_size (stepped all c.loop-left.left c.in-Some.m c.next-left.result c.in-Some.is c.next-left.ensures) in
    let one = node_size_positive (node_at all c.in-Some.m) in
    omega (arith, sizes, one)

pub loop-left-preserved : goal.loop-left-preserved
loop-left-preserved c =
    let all = c.args.self.now.nodes.now in
    let ns = names c.args.names.now in
    let m = node_at all c.in-Some.m in
    let step = stepped all c.loop-left.left c.in-Some.m c.next-left.result c.in-Some.is c.next-left.ensures in
    let sizes = ap nodes_size step in
    let one = node_size_positive m in
    let more = ap length c.in_ok-push.ensures in
    let many = length-push c.loop-left.vars c.in_ok-name.name.now in
    record {
      there = stands_there all c.next-left.result (nodes_after all c.in-Some.m) c.next-left.ensures;
      few = omega (arith, sizes, one, more, many, c.loop-left.invariant.few);
      read = binders_read_more (IsDummy ns) (dummy_asked ns) (dummy_holds ns) (dummy_word ns) c.loop-left.vars c.push.new.self (nodes_from all c.loop-left.left) (nodes_from all c.next-left.result) m step
          c.in_ok-name.name.now c.in_ok-name.dummy c.in_ok-name.ensures.read c.in_ok-push.ensures
          (AreDummies ns c.args.vars.now (node_at all c.args.n)) c.loop-left.dummies c.push-in-Some.new.self c.in_ok-push-2.ensures.ok c.loop-left.invariant.read;
      asked = binders_asked_more (IsDummy ns) (dummy_asked ns) (dummy_holds ns) (dummy_word ns) c.loop-left.vars c.push.new.self (nodes_from all c.loop-left.left) (nodes_from all c.next-left.result) m step
          c.in_ok-name.name.now c.in_ok-name.dummy c.in_ok-name.ensures.read c.in_ok-push.ensures
          (dummies_asked ns c.args.vars.now (node_at all c.args.n)) c.loop-left.invariant.asked;
    }

pub returns-clause-read : goal.returns-clause-read
returns-clause-read c =
    let all = c.args.self.now.nodes.now in
    let ns = names c.args.names.now in
    subst (λ bs. AreDummies ns c.args.vars.now (node_at all c.args.n) bs c.loop-left.vars) (append-nil c.loop-left.dummies)
    (c.loop-left.invariant.read [] c.loop-left.vars (subst (λ l. AreBinders (IsDummy ns) c.loop-left.vars l [] c.loop-left.vars) (sym (ap (nodes_from all) c.in_default.is)) (refl, refl)))
