use Rattle.mz_type.proofs.BothModes.{modes_agree}
use Rattle.mz_type.proofs.laws.modes_agree.Goals as goal

pub returns : goal.returns
returns c = modes_agree
