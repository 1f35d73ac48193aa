use Rattle.mz_emit_theory.proofs.FilesHold.{files-good, files-spell, made-legal}
use Rattle.mz_emit_theory.proofs.FileSameLists.{written-same}
use Rattle.mz_emit_theory.proofs.file_laws.written_files_are_good.Goals as goal

pub returns-clause-good : goal.returns-clause-good
returns-clause-good c = files-good

pub returns-clause-spelled : goal.returns-clause-spelled
returns-clause-spelled c = files-spell

pub returns-clause-legal : goal.returns-clause-legal
returns-clause-legal c = made-legal

pub returns-clause-same : goal.returns-clause-same
returns-clause-same c = written-same
