use Rattle.mz_emit_theory.proofs.Example.{example-written, draft-written}
use Rattle.mz_emit_theory.proofs.file_laws.example_is_written.Goals as goal

pub returns-clause-finished : goal.returns-clause-finished
returns-clause-finished c = example-written

pub returns-clause-draft : goal.returns-clause-draft
returns-clause-draft c = draft-written
