use Rattle.mz_pmachine_theory.proofs.AskedAlone.{streams-too, rows-too, ends-too}
use Rattle.mz_pmachine_theory.proofs.WholeSaves.{whole-streams}
use Rattle.mz_pmachine_theory.proofs.laws.asked_of_unfoldings_alone.Goals as goal

pub returns : goal.returns
returns c = record { streams = streams-too; rows = rows-too; ends = ends-too; definitions = whole-streams }
