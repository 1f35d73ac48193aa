use Rattle.mz_tool.proofs.Accepted.{samples-accepted}
use Rattle.mz_tool.proofs.laws.samples_are_accepted.Goals as goal

pub returns : goal.returns
returns c = samples-accepted
