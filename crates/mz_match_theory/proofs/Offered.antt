-- What crates above may use of these proofs; all else is this crate's own, and may change.
pub use Rattle.mz_match_theory.proofs.AcceptedSound.{accepted-proves, accepted-sound, sound-proves}
pub use Rattle.mz_match_theory.proofs.Counting.{count-take}
pub use Rattle.mz_match_theory.proofs.OneVerdict.{accepted-excludes, counts-one, excludes, refusal-one, refusal-says, verdict-says}
pub use Rattle.mz_match_theory.proofs.SomeVerdict.{verdict-or-refusal}
pub use Rattle.mz_match_theory.proofs.Spelled.{AreLeft, ParamsLeft, deps-differ, deps-end, deps-short, deps-skip, deps-step, params-differ, params-end, params-step, places-end, places-room, places-step}
