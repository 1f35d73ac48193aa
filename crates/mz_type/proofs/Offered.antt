-- What crates above may use of these proofs; all else is this crate's own, and may change.
pub use Rattle.mz_type.proofs.BothModes.{modes_agree}
pub use Rattle.mz_type.proofs.StatedSteps.{statements_many}
pub use Rattle.mz_type.proofs.Turned.{fewer, taken, turned}
