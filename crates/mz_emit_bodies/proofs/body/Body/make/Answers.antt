use Rattle.mz_emit_bodies.proofs.Keeping.{made}
use Rattle.mz_emit_bodies.specs.TaskInvariant.{to_do}
use Rattle.mz_emit_bodies.proofs.Counting.{make_room}
use Rattle.mz_emit_bodies.proofs.body.Body.make.Goals as goal

pub returns-clause-does : goal.returns-clause-does
returns-clause-does c = λ o d. made _ o _ _ _ _ _ _ c.args.id.0 c.in-Some.term _ _ _ _ _ c.once.ensures c.in-Some.ensures
    c.in_ok-push_expr-in-Some.ensures.at c.in_ok-push_expr-in-Some.ensures.others c.in_ok-push_expr-in-Some.ensures.more c.in_ok-put-in-Some.ensures.bytes c.in_ok-put-in-Some.ensures.small d

pub push_expr-requires : goal.push_expr-requires
push_expr-requires c = record { room = make_room c.args.self.now.before.env.now c.args.self.now.shared.store _ _ _ _ c.requires.can.1.commands c.requires.can.0.whole (to_do c.args.self.now.tasks.items) c.args.id.0 c.requires.can.1.writing }
