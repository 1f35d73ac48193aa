-- A written file is accepted where the text's public statements agree with the specification.
use Rattle.mz_emit_theory.proofs.FilesHold.{files-good}
use Rattle.mz_emit_theory.proofs.FileSameLists.{written-same}
use Rattle.mz_emit_theory.specs.AcceptedLaws.{WrittenFilesAreAccepted}
use Rattle.mz_emit_theory.proofs.Agreeing.{same-lists-agree}

pub files-accepted : WrittenFilesAreAccepted
files-accepted gaps p text made fit legal written spec ds is-spec agrees = record {
  declared = ds;
  statements = made;
  is_spec = is-spec;
  is_good = files-good gaps p text made fit legal written;
  agrees = same-lists-agree ds text made (written-same gaps p text made written) agrees;
}
