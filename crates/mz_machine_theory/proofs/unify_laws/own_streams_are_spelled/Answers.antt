use Rattle.mz_machine_theory.proofs.Exact.{assertions-spelled, definitions-spelled}
use Rattle.mz_machine_theory.proofs.unify_laws.own_streams_are_spelled.Goals as goal

pub returns : goal.returns
returns c = record { assertions = assertions-spelled; definitions = definitions-spelled }
