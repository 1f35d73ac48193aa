-- What crates above may use of these proofs; all else is this crate's own, and may change.
pub use Rattle.mz_io.proofs.Answered.{grows-answered, taken-append}
pub use Rattle.mz_io.proofs.Logs.{cut-after, grows-both, grows-none, written-both, written-none}
