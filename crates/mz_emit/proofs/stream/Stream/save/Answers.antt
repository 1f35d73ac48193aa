use Rattle.std.proofs.Common.{sym, subst}
use Rattle.mz_store.specs.Sharing.{AreIn, tree_of}
use Rattle.mz_emit.specs.Going.{to_do}
use Rattle.mz_emit.proofs.Going.{mark_room, save_done, less_after, turned, turned_in}
use Rattle.mz_emit.proofs.stream.Stream.save.Goals as goal

pub returns-clause-does : goal.returns-clause-does
returns-clause-does c = λ o g. (
  tt,
  subst (AreIn c.args.store.now) (sym c.in_ok-push_turned.ensures) (turned_in c.args.store.now c.args.self.now.todo.items c.args-2.result.now c.args-2.ensures.ids g.1),
  save_done o c.args.store.now c.args.self.now.heap.places.items c.args.self.now.heap.len c.args.self.now.met c.args.self.now.out.items c.args.id.0 c.args.term (to_do c.args.store.now c.args.self.now.todo.items) _ _ _ _ g.2 g.0.0
      c.requires.head c.requires.fresh (c.requires.met o g) c.in_ok-push_expr.ensures.at c.in_ok-push_expr.ensures.others c.in_ok-push_expr.ensures.more c.in_ok-put.ensures (turned c.args.store.now c.args.self.now.todo.items c.args-2.result.now _ _ c.args-2.ensures.trees c.in_ok-push_turned.ensures),
)

pub returns-clause-less : goal.returns-clause-less
returns-clause-less c = less_after c.args.store.now c.args.self.now.todo.items c.args-2.result.now _ _ c.args.term c.requires.head c.args-2.ensures.trees c.in_ok-push_turned.ensures

pub push_expr-requires : goal.push_expr-requires
push_expr-requires c = record {
  room = mark_room c.requires.can.0 c.args.store.now c.args.self.now.heap.places.items c.args.self.now.heap.len c.args.self.now.met c.args.self.now.out.items (tree_of c.args.store.now c.args.id.0)
      (to_do c.args.store.now c.args.self.now.todo.items) c.requires.can.1.2;
}
