-- What crates above may use of these proofs; all else is this crate's own, and may change.
pub use Rattle.mz_machine_env.proofs.DisjointPlaces.{AmongFirst, Decides, among-all, among-next, among-none, decides-end, decides-first, decides-next, decides-not, place-below, place-fits, places-all, places-skip, places-take, row-asked, rows-at, rows_from}
pub use Rattle.mz_machine_env.proofs.ApartWords.{TellsV, apart-at-once, apart-words}
pub use Rattle.mz_machine_env.proofs.BeforeLaws.{binders_many, drop-within, length-words, no-term-before, no-thm-before, row-in-file, signatures-before, term-before, thm-before, words-at}
pub use Rattle.mz_machine_env.proofs.BodyUnderway.{IsUnderway, at-first, cut-whole, end-many, end-refused, end-whole, ends-there, goes-further, goes-on, long-whole, refused-many, refused-whole}
pub use Rattle.mz_machine_env.proofs.FreeWords.{free-test}
pub use Rattle.mz_machine_env.proofs.FromPlaces.{next-at}
pub use Rattle.mz_machine_env.proofs.OwnWords.{byte-kind, kind-byte, kind-is, own-binders, own-bits, words-are}
