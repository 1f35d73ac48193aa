-- What crates above may use of these proofs; all else is this crate's own, and may change.
pub use Rattle.mz_sexpr.proofs.Readings.{few_rows, is_read_or_refused, one_reading_only, tokens_when_read}
pub use Rattle.mz_sexpr.proofs.Pieces.{and_false}
