use Rattle.std.proofs.Common.{arith}
use Rattle.mz_store.specs.Sharing.{tree_of}
use Rattle.mz_emit.specs.Going.{to_do}
use Rattle.mz_emit.proofs.Going.{dummy_done, mark_room, size_some}
use Rattle.mz_emit.proofs.stream.Stream.meet.Goals as goal

pub returns-clause-does : goal.returns-clause-does
returns-clause-does c = λ o g. (
  tt,
  g.1,
  dummy_done o c.args.store.now c.args.self.now.heap.places.items c.args.self.now.heap.len c.args.self.now.met c.args.self.now.out.items c.args.id.0 c.sort_of.result c.deps.result
      (to_do c.args.store.now c.args.self.now.todo.items) _ _ _ g.0.0 c.requires.variable c.requires.fresh c.sort_of.ensures.sort c.deps.ensures.variables
      c.in_ok-push_expr.ensures.at c.in_ok-push_expr.ensures.others c.in_ok-push_expr.ensures.more c.in_ok-put.ensures g.2,
)

pub returns-clause-less : goal.returns-clause-less
returns-clause-less c = (let some = size_some (tree_of c.args.store.now c.args.id.0) in omega (arith, some))

pub push_expr-requires : goal.push_expr-requires
push_expr-requires c = record {
  room = mark_room c.requires.can.0 c.args.store.now c.args.self.now.heap.places.items c.args.self.now.heap.len c.args.self.now.met c.args.self.now.out.items (tree_of c.args.store.now c.args.id.0)
      (to_do c.args.store.now c.args.self.now.todo.items) c.requires.can.1.2;
}
