use Rattle.mz_binary_theory.proofs.FileSteps.{steps-by-table, steps-of-file}
use Rattle.mz_binary_theory.proofs.ListBounds.{bound-never-ends}
use Rattle.mz_binary_theory.proofs.whole_laws.steps_of_files_are_bounded.Goals as goal

pub returns : goal.returns
returns c = record { few = steps-by-table; steps = steps-of-file; bound = bound-never-ends }
