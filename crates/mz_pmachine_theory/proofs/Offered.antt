-- What crates above may use of these proofs; all else is this crate's own, and may change.
pub use Rattle.mz_pmachine_theory.proofs.AskedAlone.{ends-too, rows-too}
pub use Rattle.mz_pmachine_theory.proofs.ByIdentity.{shared-run}
pub use Rattle.mz_pmachine_theory.proofs.ByStandard.{holds-by-standard, runs-by-standard, stops-by-standard}
pub use Rattle.mz_pmachine_theory.proofs.Equal.{equal-refl, equal-same}
pub use Rattle.mz_pmachine_theory.proofs.WholeSaves.{whole-streams}
