use Rattle.mz_emit_bodies.proofs.Operands.{axioms_take, definitions_take, theorems_take}
use Rattle.mz_emit_bodies.proofs.laws.operands_take_four_bytes.Goals as goal

pub returns : goal.returns
returns c = record { definitions = definitions_take; axioms = axioms_take; theorems = theorems_take }
