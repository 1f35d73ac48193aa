use Rattle.mz_emit_bodies.proofs.Spending.{axioms_short, definitions_short, theorems_short}
use Rattle.mz_emit_bodies.proofs.laws.bodies_are_short.Goals as goal

pub returns : goal.returns
returns c = record { definitions = definitions_short; axioms = axioms_short; theorems = theorems_short }
