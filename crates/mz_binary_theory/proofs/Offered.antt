-- What crates above may use of these proofs; all else is this crate's own, and may change.
pub use Rattle.mz_binary_theory.proofs.ByTable.{good-by-table, holds-with, lets-with, runs-by-table}
pub use Rattle.mz_binary_theory.proofs.ChainLaws.{chain-declares, chain-more}
pub use Rattle.mz_binary_theory.proofs.Declared.{assertions-many, sorts-many, terms-many}
pub use Rattle.mz_binary_theory.proofs.Entries.{body_of, entry-good}
pub use Rattle.mz_binary_theory.proofs.Following.{FollowedBy, followed, rows-after, same-taken}
pub use Rattle.mz_binary_theory.proofs.FinishedDrafts.{finished-good}
pub use Rattle.mz_binary_theory.proofs.FreshCounts.{Among, fresh-fewer, words-bound}
pub use Rattle.mz_binary_theory.proofs.Fronts.{steps-here, steps-rest}
pub use Rattle.mz_binary_theory.proofs.GapFree.{ungapped-free}
pub use Rattle.mz_binary_theory.proofs.GappedBodies.{bodies-many, bodies-more, gapped-back, gapped-on, gapped-within, marks-with, new-gapped, no-marks}
pub use Rattle.mz_binary_theory.proofs.Heads.{IsHeadAt, code-of, head-at}
pub use Rattle.mz_binary_theory.proofs.Inverting.{ends-there, found-is, then-ok}
pub use Rattle.mz_binary_theory.proofs.LegalChains.{cite-as-bodies, good-legal, well-chain}
pub use Rattle.mz_binary_theory.proofs.ListBounds.{bound-never-ends}
pub use Rattle.mz_binary_theory.proofs.PlacesJudged.{empty-decides, judges-test, layout-judged, params-judged, place-judged, row-judged, taken-decides, words-judged}
pub use Rattle.mz_binary_theory.proofs.RowLaws.{HasRightRow, good-rows, no-assertion, right-row}
pub use Rattle.mz_binary_theory.proofs.SortsSoFar.{HasSorts, chain-sorts, sorts-more}
pub use Rattle.mz_binary_theory.proofs.SpellingLaws.{one-good}
pub use Rattle.mz_binary_theory.proofs.WholeFiles.{at-head, good-or-fault, good-spelled, one-list}
