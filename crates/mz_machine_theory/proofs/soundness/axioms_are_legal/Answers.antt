use Rattle.mz_machine_theory.proofs.Assertions.{axiom-legal}
use Rattle.mz_machine_theory.proofs.soundness.axioms_are_legal.Goals as goal

pub returns : goal.returns
returns c = λ gaps tables env declares h at bytes kind right (last, run). axiom-legal gaps tables env declares h at bytes last kind right run
