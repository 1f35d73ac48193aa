-- What crates above may use of these proofs; all else is this crate's own, and may change.
pub use Rattle.mz_logic_free.proofs.Narrowing.{narrowed-none}
pub use Rattle.mz_logic_free.proofs.Owners.{own-owned}
pub use Rattle.mz_logic_free.proofs.Sharing.{IsOther, Names, none-has}
