-- A written file is accepted by identity where the text's public statements agree with the specification.
use Rattle.std.proofs.Common.{false}
use Rattle.mz_emit_theory.proofs.FileSameLists.{written-same}
use Rattle.mz_emit_theory.proofs.Agreeing.{same-lists-agree}
use Rattle.mz_emit_theory.specs.LawsByIdentity.{WrittenFilesAreAcceptedByIdentity}
use Rattle.mz_emit_theory.proofs.FilesByIdentity.{files-by-identity}

pub accepted-by-identity : WrittenFilesAreAcceptedByIdentity
accepted-by-identity p text made fit legal written spec ds is-spec agrees = record {
  declared = ds;
  statements = made;
  is_spec = is-spec;
  is_good = files-by-identity p text made fit legal written;
  agrees = same-lists-agree ds text made (written-same false p text made written) agrees;
}
