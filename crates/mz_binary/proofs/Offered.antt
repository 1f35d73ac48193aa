-- What crates above may use of these proofs; all else is this crate's own, and may change.
pub use Rattle.mz_binary.proofs.Counting.{most-of-file, no-steps}
pub use Rattle.mz_binary.proofs.EarlierWords.{were-right}
