use Rattle.mz_machine_theory.specs.Sound.{used_by}
use Rattle.mz_machine_theory.proofs.RowsKeep.{keeps}
use Rattle.mz_machine_theory.proofs.soundness.rows_keep_the_fact.Goals as goal

pub returns : goal.returns
returns c = λ gaps tables env declares bytes params full at code n st st' cites leaves row.
    keeps (used_by gaps env bytes) tables env declares params full gaps at code n st st' ((λ is-thm there. (cites is-thm, there)), λ is-sorry on. (on, leaves is-sorry)) row
