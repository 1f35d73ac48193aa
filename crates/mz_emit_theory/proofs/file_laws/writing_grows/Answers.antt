use Rattle.mz_emit_theory.proofs.FileGrowing.{nothing-written, writing-grows, rows-counted, appended-next}
use Rattle.mz_emit_theory.proofs.file_laws.writing_grows.Goals as goal

pub returns-clause-nothing : goal.returns-clause-nothing
returns-clause-nothing c = nothing-written

pub returns-clause-more : goal.returns-clause-more
returns-clause-more c = writing-grows

pub returns-clause-counted : goal.returns-clause-counted
returns-clause-counted c = rows-counted

pub returns-clause-next : goal.returns-clause-next
returns-clause-next c = appended-next
