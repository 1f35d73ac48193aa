use Rattle.std.proofs.Common.{ℕ, ◌≡◌, ◌+◌, length, rules, ap, ◌∙◌, sym, subst, arith}
use Rattle.mz_logic_theory.specs.Sorts.{HasSort}
use Rattle.mz_logic_theory.specs.Tree.{var, app, followed_by, instance, instances, past}
use Rattle.mz_logic_theory.specs.Words.{signatures_of}
use Rattle.mz_logic_theory.proofs.Offered.{followed_by_none, past-end}
use Rattle.mz_store.specs.Sharing.{trees_of}
use Rattle.mz_emit_theory.specs.InReach.{InReach}
use Rattle.mz_emit_bodies.proofs.Making.{Making, can_make, made, operand_held, can_take, all_sorted}
use Rattle.mz_emit_bodies.proofs.shared.+instance_id.Goals as goal

pub instance_id-instance_ids-requires : goal.instance_id-instance_ids-requires
instance_id-instance_ids-requires g t c κs within =
    let is : c.args.expr.now ≡ app c.in-App.t c.in-App.es = sym c.in-App.ensures in
    let sorted = subst (λ e. (k : ℕ) × HasSort (signatures_of (g.T.Terms.all_terms c.args.terms.now)) c.args.store.now.context (instance (trees_of c.args.store.now c.args.operands.now) e) k) is c.requires.sorted in
    let there = subst (InReach (length c.args.operands.now)) is c.requires.there in
    search (rules, within, c.requires.over, c.requires.ids, there, is, all_sorted _ _ c.in-App.t (instances (trees_of c.args.store.now c.args.operands.now) c.in-App.es) sorted)

pub instance_id-app-requires-clause-fit : goal.instance_id-app-requires-clause-fit
instance_id-app-requires-clause-fit g t c =
    let is : c.args.expr.now ≡ app c.in-App.t c.in-App.es = sym c.in-App.ensures in
    let sorted = subst (λ e. (k : ℕ) × HasSort (signatures_of (g.T.Terms.all_terms c.args.terms.now)) c.args.store.now.context (instance (trees_of c.args.store.now c.args.operands.now) e) k) is c.requires.sorted in
    can_take _ _ c.in-App.t (instances (trees_of c.args.store.now c.args.operands.now) c.in-App.es) sorted c.instance_ids.new.store c.deref.result.now c.in_ok-args-in-App.ensures.grows
    (search (rules, ap (trees_of c.instance_ids.new.store) c.deref.ensures.value, c.in_ok-args-in-App.ensures.trees))

pub instance_id-returns-in-Var-clause-holds : goal.instance_id-returns-in-Var-clause-holds
instance_id-returns-in-Var-clause-holds g t c =
    let is : c.args.expr.now ≡ var c.in-Var.x = sym c.in-Var.ensures in
    let there = subst (InReach (length c.args.operands.now)) is c.requires.there in
    search (rules, is, operand_held c.args.store.now c.args.operands.now c.in-Var.x (record { 0 = 0 }) c.requires.ids there)

pub instance_ids-instance_id-requires : goal.instance_ids-instance_id-requires
instance_ids-instance_id-requires g t c κs within =
    let can = can_make _ _ _ c.args.operands.now _ _ _ _ _ c.at.ensures.left c.requires.ids c.loop-i.invariant in
    search (rules, within, c.at.ensures.within, can.0, can.1, can.2, can.3)

pub instance_ids-loop-i-preserved : goal.instance_ids-loop-i-preserved
instance_ids-loop-i-preserved g t c =
    let es = c.args.es.now in
    subst (λ ids. Making (signatures_of (g.T.Terms.all_terms c.args.terms.now)) c.args.store.now c.instance_id.new.store c.args.operands.now ids (past (c.loop-i.i + 1) es) es)
    (sym c.in_ok-push.ensures.items)
    (made _ _ _ c.args.operands.now _ _ _ _ _ c.at.ensures.left c.requires.ids c.loop-i.invariant _ c.in_ok-id.id c.in_ok-id.ensures.holds c.in_ok-id.ensures.grows c.in_ok-id.ensures.over)

pub instance_ids-returns-clause-trees : goal.instance_ids-returns-clause-trees
instance_ids-returns-clause-trees g t c =
    let f = trees_of c.args.store.now c.args.operands.now in
    let built = trees_of c.loop-i.store c.loop-i.ids.items in
    let end = past-end c.args.es.now c.loop-i.i (omega (arith, c.len-i-end.ensures, c.loop-i-test.false)) in
    sym (followed_by_none built) ∙ ap (λ es. followed_by built (instances f es)) (sym end) ∙ c.loop-i.invariant.builds
