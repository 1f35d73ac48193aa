-- What crates above may use of these proofs; all else is this crate's own, and may change.
pub use Rattle.mz_cmd.proofs.SpellingLaws.{Spells-again, shortest-spells}
pub use Rattle.mz_cmd.proofs.ListLaws.{not-ended}
