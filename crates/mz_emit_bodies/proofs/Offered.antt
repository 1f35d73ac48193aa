-- What crates above may use of these proofs; all else is this crate's own, and may change.
pub use Rattle.mz_emit_bodies.proofs.Making.{in_push, tree_grown}
pub use Rattle.mz_emit_bodies.proofs.Operands.{axioms_take, definitions_take, theorems_take}
pub use Rattle.mz_emit_bodies.proofs.Owned.{is_var, variable_id}
pub use Rattle.mz_emit_bodies.proofs.Spending.{axioms_short, definitions_short, theorems_short}
pub use Rattle.mz_emit_bodies.proofs.WholeBodies.{axioms_are_written, definitions_are_written, theorem_bodies_use}
