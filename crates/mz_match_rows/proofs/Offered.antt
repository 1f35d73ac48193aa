-- What crates above may use of these proofs; all else is this crate's own, and may change.
pub use Rattle.mz_match_rows.proofs.BesideRows.{body-judged, body-there, claims-plain, exact-for, exact-no, exact-yes, first-stream, not-body, turned-twice}
pub use Rattle.mz_match_rows.proofs.FewDummies.{few-dummies}
pub use Rattle.mz_match_rows.proofs.RowPairs.{assertion-judged, assertion-kind-differs, judges-partner, sort-kind-differs, sort-mods-differ, sort-row, sort-same, term-form-differs, term-kind-differs, term-row, term-whole, thm-row}
pub use Rattle.mz_match_rows.proofs.SaidStreams.{Grows, Segment, append-none, grows-not, hyps-grow, hyps-said, joined, spelled-said}
pub use Rattle.mz_match_rows.proofs.Steps.{command-takes}
