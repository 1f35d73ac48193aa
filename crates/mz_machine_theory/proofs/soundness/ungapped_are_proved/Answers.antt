use Rattle.mz_machine_theory.proofs.Ungapped.{ungapped-proved}
use Rattle.mz_machine_theory.proofs.soundness.ungapped_are_proved.Goals as goal

pub returns : goal.returns
returns c = ungapped-proved
