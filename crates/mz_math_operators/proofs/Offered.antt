-- What crates above may use of these proofs; all else is this crate's own, and may change.
pub use Rattle.mz_math_operators.proofs.Marking.{apart}
pub use Rattle.mz_math_operators.proofs.Naming.{found-decides}
pub use Rattle.mz_math_operators.proofs.Spotting.{joined-apart, led-apart}
