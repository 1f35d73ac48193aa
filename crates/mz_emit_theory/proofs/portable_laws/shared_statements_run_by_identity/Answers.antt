use Rattle.mz_emit_theory.proofs.Statements.{assertions-run, definitions-run}
use Rattle.mz_emit_theory.proofs.portable_laws.shared_statements_run_by_identity.Goals as goal

pub returns : goal.returns
returns c = record { assertions = assertions-run; definitions = definitions-run }
