use Rattle.mz_machine_theory.proofs.Assertions.{theorem-legal}
use Rattle.mz_machine_theory.proofs.soundness.theorems_are_proved.Goals as goal

pub returns : goal.returns
returns c = λ gaps tables env legal declares h at bytes kind right (last, run). theorem-legal gaps tables env legal declares h at bytes last kind right run
