use Rattle.mz_pmachine_theory.proofs.ByIdentity.{shared-run, rows-by-identity, streams-by-identity}
use Rattle.mz_pmachine_theory.proofs.laws.shared_bodies_run_by_identity.Goals as goal

pub returns : goal.returns
returns c = record { bodies = shared-run; rows = rows-by-identity; streams = streams-by-identity }
