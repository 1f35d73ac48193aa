use Rattle.mz_emit_theory.proofs.Reaching.{axioms-have-steps, theorems-have-steps, definitions-have-steps}
use Rattle.mz_emit_theory.proofs.Theorems.{theorems-run}
use Rattle.mz_emit_theory.proofs.body_laws.legal_statements_have_steps.Goals as goal

pub returns : goal.returns
returns c = record { axioms = axioms-have-steps; theorems = theorems-have-steps; definitions = definitions-have-steps; run = theorems-run }
