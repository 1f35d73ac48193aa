-- What crates above may use of these proofs; all else is this crate's own, and may change.
pub use Rattle.mz_mmu_forms.proofs.Stopping.{failed, stops_after, stops_before, stops_whole}
