use Rattle.mz_emit_theory.proofs.AcceptedByIdentity.{accepted-by-identity}
use Rattle.mz_emit_theory.proofs.laws_by_identity.written_files_are_accepted_by_identity.Goals as goal

pub returns : goal.returns
returns c = accepted-by-identity
