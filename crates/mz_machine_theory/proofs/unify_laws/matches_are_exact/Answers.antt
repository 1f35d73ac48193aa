use Rattle.mz_machine_theory.proofs.Exact.{citations-exact, unfoldings-exact}
use Rattle.mz_machine_theory.proofs.unify_laws.matches_are_exact.Goals as goal

pub returns : goal.returns
returns c = record { citations = citations-exact; unfoldings = unfoldings-exact }
