use Rattle.mz_machine_theory.proofs.Definitions.{definition-legal}
use Rattle.mz_machine_theory.proofs.soundness.definitions_are_legal.Goals as goal

pub returns : goal.returns
returns c = λ gaps tables env declares h at bytes kind right result (last, run). definition-legal gaps tables env declares h at bytes last kind right result run
