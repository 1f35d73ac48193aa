use Rattle.mz_emit_bodies.proofs.WholeBodies.{axioms_are_written, definitions_are_written, theorems_are_written}
use Rattle.mz_emit_bodies.proofs.laws.bodies_are_written.Goals as goal

pub returns : goal.returns
returns c = record { definitions = definitions_are_written; axioms = axioms_are_written; theorems = theorems_are_written }
