use Rattle.mz_logic.proofs.WorkedExamples.{missing_dependency, later_dependency}
use Rattle.mz_logic.proofs.examples.dependencies_come_before.Goals as goal

pub returns-clause-missing : goal.returns-clause-missing
returns-clause-missing c = missing_dependency

pub returns-clause-later : goal.returns-clause-later
returns-clause-later c = later_dependency
