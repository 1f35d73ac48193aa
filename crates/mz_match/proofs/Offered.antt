-- What crates above may use of these proofs; all else is this crate's own, and may change.
pub use Rattle.mz_match.proofs.Judging.{refused-first}
