use Rattle.std.proofs.Common.{arith, rules}
use Rattle.mz_pmachine_unify.proofs.Adding.{add-kept, add-view, more-kept, more-view}
use Rattle.mz_pmachine_unify.proofs.nodes.Nodes.add.Goals as goal

pub invariant_of-self-in_err-push : goal.invariant_of-self-in_err-push
invariant_of-self-in_err-push c =
    let own = c.self.inside in
    more-kept own.mode own.bound_count own.operands.items c.extend_from_slice.new.self.items c.args.args.now own.nodes.items c.push.new.self.items c.self.invariant c.in_ok-extend_from_slice.ensures.items c.in_err-push.ensures.items

pub returns-in_err-push-clause-err : goal.returns-in_err-push-clause-err
returns-in_err-push-clause-err c =
    let own = c.self.inside in
    let view = more-view own.mode own.bound_count own.operands.items c.extend_from_slice.new.self.items c.args.args.now own.nodes.items c.push.new.self.items c.self.invariant c.in_ok-extend_from_slice.ensures.items c.in_err-push.ensures.items c.args.self.now c.self.view_is in
    search (rules, view)

pub invariant_of-self-2 : goal.invariant_of-self-2
invariant_of-self-2 c =
    let own = c.self.inside in
    add-kept own.mode own.bound_count own.operands.items c.extend_from_slice.new.self.items c.args.args.now own.nodes.items c.push.new.self.items c.args.sort c.args.vars c.args.deps
    (record { number = c.args.number; head = c.args.head; from = c.in_ok-from.from; many = c.in_ok-many.many })
    c.args.self.now c.self.invariant c.self.view_is c.in_ok-extend_from_slice.ensures.items c.in_ok-push.ensures.items (omega (arith, c.in_ok-from.ensures.number, c.len-2.ensures)) c.in_ok-many.ensures.number c.requires

pub returns-clause-ok : goal.returns-clause-ok
returns-clause-ok c =
    let own = c.self.inside in
    add-view own.mode own.bound_count own.operands.items c.extend_from_slice.new.self.items c.args.args.now own.nodes.items c.push.new.self.items c.args.sort c.args.vars c.args.deps
    (record { number = c.args.number; head = c.args.head; from = c.in_ok-from.from; many = c.in_ok-many.many })
    c.args.self.now c.self.invariant c.self.view_is c.in_ok-extend_from_slice.ensures.items c.in_ok-push.ensures.items (omega (arith, c.in_ok-from.ensures.number, c.len-2.ensures)) c.in_ok-many.ensures.number
