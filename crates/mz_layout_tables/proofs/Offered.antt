-- What crates above may use of these proofs; all else is this crate's own, and may change.
pub use Rattle.mz_layout_tables.proofs.Decided.{layout-decided}
pub use Rattle.mz_layout_tables.proofs.FileParts.{file-written, front-written, rows-written}
pub use Rattle.mz_layout_tables.proofs.FirstSorts.{length-first_sorts}
pub use Rattle.mz_layout_tables.proofs.HeadPlaces.{code-is, command-takes, head-ahead}
pub use Rattle.mz_layout_tables.proofs.HeadsDecided.{empty-decided, head-decided}
pub use Rattle.mz_layout_tables.proofs.LayoutHolds.{layout-holds}
pub use Rattle.mz_layout_tables.proofs.LengthBound.{file-bound}
pub use Rattle.mz_layout_tables.proofs.ListRead.{all-listed}
pub use Rattle.mz_layout_tables.proofs.Parts.{parts-of_layout}
pub use Rattle.mz_layout_tables.proofs.PartsStand.{SaysCounts, counts-said, file-length}
pub use Rattle.mz_layout_tables.proofs.PieceLengths.{block-written}
pub use Rattle.mz_layout_tables.proofs.Rest.{all-written, appended, block-within, blocks-more, ended, list-more, statement-within, table-next, words-more}
pub use Rattle.mz_layout_tables.proofs.RightWords.{right-words}
pub use Rattle.mz_layout_tables.proofs.RoomFor.{room-for-statement}
pub use Rattle.mz_layout_tables.proofs.StandingLaws.{stands-bytes, stands-first, stands-is, stands-second}
pub use Rattle.mz_layout_tables.proofs.TableLists.{length-params, length-sorts, length-term_words, slice_get-sorts, term_at-words}
pub use Rattle.mz_layout_tables.proofs.TablesRead.{mods-read, term-read, term-stream, thm-read, thm-stream}
pub use Rattle.mz_layout_tables.proofs.WordsHold.{params-hold, params-right, result-right, term-params-right, words-hold}
pub use Rattle.mz_layout_tables.proofs.WordsPass.{bound-many, param-at}
