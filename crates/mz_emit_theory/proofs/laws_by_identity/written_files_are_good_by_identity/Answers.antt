use Rattle.mz_emit_theory.proofs.FilesByIdentity.{files-by-identity}
use Rattle.mz_emit_theory.proofs.laws_by_identity.written_files_are_good_by_identity.Goals as goal

pub returns : goal.returns
returns c = files-by-identity
