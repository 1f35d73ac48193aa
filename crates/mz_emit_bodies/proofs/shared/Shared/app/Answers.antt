use Rattle.mz_emit_bodies.proofs.Owned.{shared_grown}
use Rattle.mz_emit_bodies.proofs.shared.Shared.app.Goals as goal

pub returns-clause-shared : goal.returns-clause-shared
returns-clause-shared c = shared_grown _ _ _ _ c.requires.shared (c.in_ok-id.ensures.context, c.in_ok-id.ensures.mode, (c.in_ok-id.ensures.kept.0, c.in_ok-id.ensures.kept.1)) c.in_ok-id.ensures.over
