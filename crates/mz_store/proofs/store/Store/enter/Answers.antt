use Rattle.mz_store.proofs.Adding.{enter-kept, enter-view, enter-over}
use Rattle.mz_store.proofs.Tabled.{table-lies}
use Rattle.mz_store.proofs.store.Store.enter.Goals as goal

pub invariant_of-self-2 : goal.invariant_of-self-2
invariant_of-self-2 c =
    let e = c.self.inside.expressions in
    enter-kept c.self.inside.table e.mode e.bound_count e.operands.items e.nodes.items c.push.new.self.items c.args.sort c.args.deps c.args.bound
    c.args.self.now c.from.result c.self.invariant c.self.view_is c.requires c.from.ensures c.in_ok-push.ensures.items

pub returns-clause-ok : goal.returns-clause-ok
returns-clause-ok c =
    let e = c.self.inside.expressions in
    enter-view e.mode e.operands.items e.nodes.items c.push.new.self.items c.args.sort c.args.deps c.args.bound
    c.args.self.now (table-lies c.self.inside.table e.operands.items e.nodes.items c.self.invariant.1) c.self.view_is c.in_ok-push.ensures.items

pub returns-clause-over : goal.returns-clause-over
returns-clause-over c =
    let e = c.self.inside.expressions in
    enter-over c.self.inside.table e.mode e.bound_count e.operands.items e.nodes.items c.push.new.self.items c.args.sort c.args.deps c.args.bound
    c.args.self.now c.self.invariant c.self.view_is c.requires c.in_ok-push.ensures.items
