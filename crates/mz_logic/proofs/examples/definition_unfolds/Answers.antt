use Rattle.mz_logic.proofs.WorkedExamples.{nn_unfolds}
use Rattle.mz_logic.proofs.examples.definition_unfolds.Goals as goal

pub returns : goal.returns
returns c = nn_unfolds
