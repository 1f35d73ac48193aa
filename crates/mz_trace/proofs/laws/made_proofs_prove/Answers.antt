use Rattle.mz_trace.proofs.Proving.{made-proves}
use Rattle.mz_trace.proofs.laws.made_proofs_prove.Goals as goal

pub returns : goal.returns
returns c = made-proves
