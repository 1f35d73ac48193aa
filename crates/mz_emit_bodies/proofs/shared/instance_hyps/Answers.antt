use Rattle.std.proofs.Common.{◌+◌, Some, rules, ap, ◌∙◌, sym, subst, arith}
use Rattle.mz_logic_theory.specs.Tree.{followed_by, instances, past}
use Rattle.mz_logic_theory.specs.Words.{signatures_of}
use Rattle.mz_logic_theory.proofs.Offered.{followed_by_none, past-at, past-end}
use Rattle.mz_store.specs.Sharing.{trees_of}
use Rattle.mz_emit_bodies.proofs.Making.{Making, can_make, made}
use Rattle.mz_emit_bodies.proofs.shared.instance_hyps.Goals as goal

pub instance_id-requires : goal.instance_id-requires
instance_id-requires g c =
    let cut = past-at c.args.hyps.now c.loop-i.i c.borrowed.result (c.at.ensures ∙ ap Some (sym c.borrowed.ensures)) in
    let can = can_make _ _ _ c.args.operands.now _ _ _ _ _ cut c.requires.ids c.loop-i.invariant in
    search (rules, can.0, can.1, can.2, can.3)

pub loop-i-preserved : goal.loop-i-preserved
loop-i-preserved g c =
    let hs = c.args.hyps.now in
    let cut = past-at hs c.loop-i.i c.borrowed.result (c.at.ensures ∙ ap Some (sym c.borrowed.ensures)) in
    subst (λ ids. Making (signatures_of (g.T.Terms.all_terms c.args.terms.now)) c.args.store.now c.instance_id.new.store c.args.operands.now ids (past (c.loop-i.i + 1) hs) hs)
    (sym c.in_ok-push.ensures.items)
    (made _ _ _ c.args.operands.now _ _ _ _ _ cut c.requires.ids c.loop-i.invariant _ c.in_ok-id.id c.in_ok-id.ensures.holds c.in_ok-id.ensures.grows c.in_ok-id.ensures.over)

pub returns-clause-trees : goal.returns-clause-trees
returns-clause-trees g c =
    let f = trees_of c.args.store.now c.args.operands.now in
    let built = trees_of c.loop-i.store c.loop-i.ids.items in
    let end = past-end c.args.hyps.now c.loop-i.i (omega (arith, c.len-i-end.ensures, c.loop-i-test.false)) in
    sym (followed_by_none built) ∙ ap (λ es. followed_by built (instances f es)) (sym end) ∙ c.loop-i.invariant.builds
