-- What crates above may use of these proofs; all else is this crate's own, and may change.
pub use Rattle.mz_tool_verify.proofs.Judged.{SaysYes, accepted-sound, judged-no, judged-only_no, judged-only_yes, judged-yes}
