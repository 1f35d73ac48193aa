-- What crates above may use of these proofs; all else is this crate's own, and may change.
pub use Rattle.mz_binary_walk.proofs.Heads.{head-here, one-code}
pub use Rattle.mz_binary_walk.proofs.OnWay.{IsOnWay, HasGone, way-asks, way-end, way-first, way-last, way-more, way-on}
