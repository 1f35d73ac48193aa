use Rattle.mz_logic.proofs.NearMisses.{cites_itself}
use Rattle.mz_logic.proofs.examples.no_theorem_cites_itself.Goals as goal

pub returns : goal.returns
returns c = cites_itself
