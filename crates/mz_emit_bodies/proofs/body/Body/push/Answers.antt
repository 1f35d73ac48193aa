use Rattle.std.proofs.Common.{sym, ap, ◌∙◌, arith, ◌++◌}
use Rattle.mz_emit_bodies.proofs.Lists.{on_ok_both}
use Rattle.std.proofs.lemmas.Result.{on_ok_weaker}
use Rattle.mz_store.specs.Sharing.{tree_of}
use Rattle.mz_emit_bodies.specs.TaskInvariant.{to_do}
use Rattle.mz_emit_bodies.specs.Sight.{parts}
use Rattle.mz_emit_bodies.specs.Pushing.{pushes}
use Rattle.mz_emit_bodies.proofs.Moves.{push_there, push_parts, size_some, parts_cost}
use Rattle.mz_emit_bodies.proofs.body.Body.push.Goals as goal

pub returns-in-Some-clause-does : goal.returns-in-Some-clause-does
returns-in-Some-clause-does c = on_ok_both c.put.result (λ bytes small o d. push_there _ o _ _ _ _ _ _ c.args.id.0 c.in-Some.place _ _ _ (sym c.in-Some.ensures) bytes small d) c.put.ensures.bytes c.put.ensures.small

pub returns-in-Some-clause-less : goal.returns-in-Some-clause-less
returns-in-Some-clause-less c = (let a = size_some (tree_of c.args.self.now.shared.store c.args.id.0) in on_ok_weaker c.put.result (λ bytes. omega (arith, a)) c.put.ensures.bytes)

pub returns-in_ok-add-in-Some-head-clause-does : goal.returns-in_ok-add-in-Some-head-clause-does
returns-in_ok-add-in-Some-head-clause-does c = on_ok_weaker c.push_turned.result (λ last o d. push_parts _ o _ _ _ _ _ _ c.args.id.0 c.in-Some-head.field-0 c.args-in-Some-head.result.now _ _ _ c.once.ensures c.in-Some-head.ensures (sym c.in_default.ensures)
    c.args-in-Some-head.ensures.ids c.args-in-Some-head.ensures.trees
    (last ∙ ap (λ z. pushes c.args-in-Some-head.result.now ++ z) c.in_ok-add-in-Some-head.ensures) d)
    c.push_turned.ensures

pub returns-in_ok-add-in-Some-head-clause-less : goal.returns-in_ok-add-in-Some-head-clause-less
returns-in_ok-add-in-Some-head-clause-less c = on_ok_weaker c.push_turned.result (λ last. parts_cost c.args.self.now.before.env.now c.args.self.now.shared.store (parts c.args.self.now.cells.cells.items) c.args.id.0 c.in-Some-head.field-0 c.args-in-Some-head.result.now (to_do c.args.self.now.tasks.items) (to_do c.push_turned.new.tasks.items) c.in-Some-head.ensures
    c.args-in-Some-head.ensures.trees
    (last ∙ ap (λ z. pushes c.args-in-Some-head.result.now ++ z) c.in_ok-add-in-Some-head.ensures))
    c.push_turned.ensures
