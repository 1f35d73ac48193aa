-- What crates above may use of these proofs; all else is this crate's own, and may change.
pub use Rattle.mz_show.proofs.Commands.{longest-some}
pub use Rattle.mz_show.proofs.OneListing.{text-unique}
pub use Rattle.mz_show.proofs.Statements.{statement-holds}
pub use Rattle.mz_show.proofs.Texts.{texts-append}
