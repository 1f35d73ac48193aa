-- What crates above may use of these proofs; all else is this crate's own, and may change.
pub use Rattle.mz_pmachine_unify.proofs.Growing.{entry-kept}
pub use Rattle.mz_pmachine_unify.proofs.Parts.{of-numbered}
pub use Rattle.mz_pmachine_unify.proofs.StoredIds.{are-in-both, are-still-in, from-exprs, is-in-at, items-in-both, items-in-left, items-in-right, items-push, length-trees, listed-exprs, still-in, tree-at, trees-of}
pub use Rattle.mz_pmachine_unify.proofs.VariableWords.{tells-operands}
