use Rattle.mz_pmachine_unify.proofs.Adding.{enter-kept, enter-view, enter-over}
use Rattle.mz_pmachine_unify.proofs.nodes.Nodes.enter.Goals as goal

pub invariant_of-self-2 : goal.invariant_of-self-2
invariant_of-self-2 c =
    let own = c.self.inside in
    enter-kept own.mode own.bound_count own.operands.items own.nodes.items c.push.new.self.items c.args.sort c.args.deps c.args.bound c.args.self.now c.self.invariant c.self.view_is c.in_ok-push.ensures.items
    c.from.result c.requires c.from.ensures

pub returns-clause-ok : goal.returns-clause-ok
returns-clause-ok c =
    let own = c.self.inside in
    enter-view own.mode own.bound_count own.operands.items own.nodes.items c.push.new.self.items c.args.sort c.args.deps c.args.bound c.args.self.now c.self.invariant c.self.view_is c.in_ok-push.ensures.items

pub returns-clause-over : goal.returns-clause-over
returns-clause-over c =
    let own = c.self.inside in
    enter-over own.mode own.bound_count own.operands.items own.nodes.items c.push.new.self.items c.args.sort c.args.deps c.args.bound c.args.self.now c.self.invariant c.self.view_is c.in_ok-push.ensures.items
    c.requires
