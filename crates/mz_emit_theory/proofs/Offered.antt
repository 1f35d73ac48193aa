-- What crates above may use of these proofs; all else is this crate's own, and may change.
pub use Rattle.mz_emit_theory.proofs.BodiesWritten.{written-gapped}
pub use Rattle.mz_emit_theory.proofs.Drafts.{finished-is-draft}
pub use Rattle.mz_emit_theory.proofs.FileGrowing.{appended-next, rows-counted, writing-grows}
pub use Rattle.mz_emit_theory.proofs.FileSameLists.{written-same}
pub use Rattle.mz_emit_theory.proofs.FilesHold.{files-good, files-spell}
pub use Rattle.mz_emit_theory.proofs.Gaps.{bodies-say-gaps, in-none}
pub use Rattle.mz_emit_theory.proofs.Marking.{all-met, met-all, place-found, place-missing}
pub use Rattle.mz_emit_theory.proofs.OverContext.{reach_of_sort, reach_of_sorted}
pub use Rattle.mz_emit_theory.proofs.Reaching.{above-more, own-item-at, proofs-more}
pub use Rattle.mz_emit_theory.proofs.SameForms.{bodies-same}
pub use Rattle.mz_emit_theory.proofs.Short.{assertions-bounded, assertions-short, definitions-bounded, definitions-short}
pub use Rattle.mz_emit_theory.proofs.Starting.{has-place, own-below}
pub use Rattle.mz_emit_theory.proofs.Texts.{assertions-shared, assertions-written, definitions-shared, definitions-written}
pub use Rattle.mz_emit_theory.proofs.Unfolds.{get-own}
pub use Rattle.mz_emit_theory.proofs.WordsSay.{words-say-params, words-say-signatures}
pub use Rattle.mz_emit_theory.proofs.Naming.{fresh_long}
pub use Rattle.mz_emit_theory.proofs.Accepted.{files-accepted}
pub use Rattle.mz_emit_theory.proofs.AcceptedByIdentity.{accepted-by-identity}
