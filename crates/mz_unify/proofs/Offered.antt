-- What crates above may use of these proofs; all else is this crate's own, and may change.
pub use Rattle.mz_unify.proofs.OperandWords.{tells-listed, tells-operands}
pub use Rattle.mz_unify.proofs.Parts.{Parts, differ, of-trees}
pub use Rattle.mz_unify.proofs.RowValues.{dummy-no-target, dummy-other, dummy-row, end-left, end-row, end-target, heads-differ, heads-same, hyp-row, hyp-stop, hyp-target, ref-no-place, ref-no-target, ref-other, ref-row, save-none, save-other, save-row, term-none, term-other, term-row}
pub use Rattle.mz_unify.proofs.StoredIds.{are-in-both, are-still-in, is-in-at, items-in-both, items-in-left, items-in-right, items-push, listed-trees, still-in, tree-at}
pub use Rattle.mz_unify.proofs.Through.{stopped-through, went-through}
pub use Rattle.mz_unify.proofs.Underway.{IsUnderway, counted-once, counted-within, cut-many, cut-whole, ended-many, ended-whole, goes-on, left-both, left-none, not-end, other-many, other-whole, stopped-many, stopped-not-done, stopped-whole, taken-exactly, taken-fits, taken-there, whole-count, whole-run}
pub use Rattle.mz_unify.proofs.UnifyTurns.{cut-run, ended-run, other-run, run_left, stopped-run, went-run}
pub use Rattle.mz_unify.proofs.UsualCommands.{told-0, told-1, told-2}
pub use Rattle.mz_unify.proofs.VariableWords.{fresh-word, not-bound, other-sort, tells-any-push, tells-none}
