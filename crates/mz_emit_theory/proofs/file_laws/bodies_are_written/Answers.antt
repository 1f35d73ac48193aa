use Rattle.mz_emit_theory.proofs.BodiesWritten.{bodies-written, written-gapped, drafts-gapped}
use Rattle.mz_emit_theory.proofs.file_laws.bodies_are_written.Goals as goal

pub returns-clause-bodies : goal.returns-clause-bodies
returns-clause-bodies c = bodies-written

pub returns-clause-gapped : goal.returns-clause-gapped
returns-clause-gapped c = written-gapped

pub returns-clause-only : goal.returns-clause-only
returns-clause-only c = drafts-gapped
