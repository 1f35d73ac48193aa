use Rattle.std.proofs.Common.{◌∷◌, [], ap, ◌∙◌, ◌++◌}
use Rattle.mz_store.specs.Sharing.{tree_of}
use Rattle.mz_emit_bodies.specs.TaskInvariant.{to_do}
use Rattle.mz_emit_bodies.proofs.Counting.{hyp_room}
use Rattle.mz_emit_bodies.proofs.Ends.{hyp_assumed}
use Rattle.mz_emit_bodies.proofs.body.Body.put_hyp.Goals as goal

pub put_expr-requires-clause-can : goal.put_expr-requires-clause-can
put_expr-requires-clause-can c = (c.requires.can.0, c.requires.can.1.0)

pub push-place-requires : goal.push-place-requires
push-place-requires c =
    let o = c.requires.can.0 in
    let w = c.requires.can.1 in
    let g = c.in_ok-put_expr.ensures.does o w.0 in
    record {
      room = hyp_room c.put_expr.new.self.before.env.now c.put_expr.new.self.shared.store _ _ _ _ g.commands o.store.context o.whole o.count (tree_of o.store c.args.id.0) (to_do c.put_expr.new.self.tasks.items)
          (ap to_do c.in_ok-put_expr.ensures.done) w.1 g.writing;
    }

pub returns-clause-does : goal.returns-clause-does
returns-clause-does c = λ o w. (
  hyp_assumed c.put_expr.new.self.before.env.now o c.put_expr.new.self.shared.store _ _ _ _ _ (tree_of o.store c.args.id.0) _ _ _ (to_do c.put_expr.new.self.tasks.items) _ _
      (ap to_do c.in_ok-put_expr.ensures.done) w.1 c.push-place.ensures.places c.push-place.ensures.more
      (c.in_ok-push.ensures.items ∙ ap (λ p. c.put_expr.new.self.hyps.items ++ p ∷ []) c.push-place.ensures.at) c.in_ok-put.ensures.bytes
      (c.in_ok-put_expr.ensures.does o w.0),
  c.in_ok-put_expr.ensures.done,
)
