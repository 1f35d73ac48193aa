use Rattle.mz_emit_bodies.proofs.Lists.{on_ok_both}
use Rattle.mz_emit_bodies.proofs.Moves.{give_done}
use Rattle.mz_emit_bodies.proofs.body.Body.give.Goals as goal

pub returns-clause-does : goal.returns-clause-does
returns-clause-does c = on_ok_both c.put.result (λ bytes small o d. give_done _ o _ _ _ _ _ _ c.args.code c.args.value _ _ _ bytes small d) c.put.ensures.bytes c.put.ensures.small
