-- What crates above may use of these proofs; all else is this crate's own, and may change.
pub use Rattle.mz_type_rules.proofs.Building.{convs_size_step}
pub use Rattle.mz_type_rules.proofs.Judging.{left_fails, left_step}
pub use Rattle.mz_type_rules.proofs.ProofSteps.{is_there}
pub use Rattle.mz_type_rules.proofs.Steps.{convs_cut, trees_cut}
