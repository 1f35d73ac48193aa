use Rattle.mz_emit_theory.proofs.Accepted.{files-accepted}
use Rattle.mz_emit_theory.proofs.accepted_laws.written_files_are_accepted.Goals as goal

pub returns : goal.returns
returns c = files-accepted
