use Rattle.mz_logic_theory.specs.Declaration.{signatures}
use Rattle.mz_emit_bodies.proofs.Keeping.{dummy_made}
use Rattle.mz_emit_bodies.specs.TaskInvariant.{to_do}
use Rattle.mz_emit_bodies.proofs.Counting.{dummy_room}
use Rattle.mz_emit_bodies.proofs.body.Body.make_dummy.Goals as goal

pub returns-clause-does : goal.returns-clause-does
returns-clause-does c = λ o d. dummy_made c.args.self.now.before.env.now o c.args.self.now.shared.store _ _ _ _ _ c.args.id.0 c.sort_of-sort.result _ _ _ _ _ c.once.ensures c.requires.variable c.requires.fresh
    (c.sort_of-sort.ensures.sort (signatures c.args.self.now.before.env.now) d.shared.over)
    c.in_ok-push_expr.ensures.at c.in_ok-push_expr.ensures.others c.in_ok-push_expr.ensures.more c.in_ok-put.ensures.bytes c.in_ok-put.ensures.small d

pub push_expr-requires : goal.push_expr-requires
push_expr-requires c = record { room = dummy_room c.args.self.now.before.env.now c.args.self.now.shared.store _ _ _ _ c.requires.can.1.commands c.requires.can.0.whole (to_do c.args.self.now.tasks.items) c.args.id.0 c.once.ensures c.requires.can.1.can.0 c.requires.fresh c.requires.variable c.requires.can.1.writing }
