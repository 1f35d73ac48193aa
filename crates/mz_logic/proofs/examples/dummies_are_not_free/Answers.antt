use Rattle.mz_logic.proofs.NearMisses.{free_dummy}
use Rattle.mz_logic.proofs.examples.dummies_are_not_free.Goals as goal

pub returns : goal.returns
returns c = free_dummy
