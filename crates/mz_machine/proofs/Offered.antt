-- What crates above may use of these proofs; all else is this crate's own, and may change.
pub use Rattle.mz_machine.proofs.BodyRunning.{OneSoFar, none-last, none-so-far, one-last, one-so-far, place-fits, then-whatever, whatever}
pub use Rattle.mz_machine.proofs.CitationRows.{cites-few, cites-meeting, cites-none, cites-other, cites-so, cites-unfit, cites-without, thm-refused, thm-row, thm-save-refused, thm-save-row, thm-save-stopped, thm-steps, thm-stopped, thm-stopped-steps}
pub use Rattle.mz_machine.proofs.ConversionRows.{cong-other, cong-row, cong-unowed, cong-variable, conv-row, conv-unclaimed, conv-unproved, gives-stack, is-unfolding, not-defined, not-taken, of-variable, refl-other, refl-row, refl-unowed, same, stopped-steps, symm-row, symm-unowed, unfold-refused, unfold-row, unfold-steps, unfold-stopped}
pub use Rattle.mz_machine.proofs.Converting.{true-false}
pub use Rattle.mz_machine.proofs.Dummies.{a-dummy, bound-more, context-longer, count-after, no-dummies}
pub use Rattle.mz_machine.proofs.EndRows.{body-free, body-sort, claim-ends, claim-other, end-steps, is-ending, no-end-steps, no-last-item, not-ending, own-are, own-end, own-run, own-steps, stopped-end}
pub use Rattle.mz_machine.proofs.FittingOperands.{fit-end, fit-step, not-variable, other-sort}
pub use Rattle.mz_machine.proofs.GapRows.{counts-as, gives-as}
pub use Rattle.mz_machine.proofs.HandedOn.{memory-stops, memory-unless, on-both, on-ok, pushed-gives, ruled-gives, ruled-ok}
pub use Rattle.mz_machine.proofs.Machines.{same-three}
pub use Rattle.mz_machine.proofs.LackRows.{lacking, not-enough, open-each}
pub use Rattle.mz_machine.proofs.OpenStacks.{AreKept, FollowsBy, all-less, begun-stand, begun-whole, come-many, first-open, last-first, next-come, none-settled, none-to-come, now-settled, operands-many, popped-first, reach-next, same-settled, the-same}
pub use Rattle.mz_machine.proofs.Popping.{last-splits, no-last}
pub use Rattle.mz_machine.proofs.ReadExprs.{ItemsOf, exprs-are, exprs-many, operands-read, read-of}
pub use Rattle.mz_machine.proofs.RowResults.{count-is, dummy-many, dummy-row, dummy-sort-fails, hyp-err, hyp-other, hyp-row, pay-left, pay-right, pay-row, provable, push-row, ref-none, ref-row, save-none, save-other, save-row, sorry-row}
pub use Rattle.mz_machine.proofs.Stopping.{stopped, stops-as}
pub use Rattle.mz_machine.proofs.TermRows.{built-few, built-none, built-row, built-unfit, can-stand, takes-its-own, term-of, term-save-of}
pub use Rattle.mz_machine.proofs.Unfoldings.{as-many, no-more, no-stream, row-there, so-many, stream-there, unless-mem, unless-more}
pub use Rattle.mz_machine.proofs.WholeEnds.{end-counts, end-refused, end-whole}
pub use Rattle.mz_machine.proofs.WholeRows.{StoodOn, WholeAfter, asks-back, asks-empty, asks-within, settled-row, settled-steps}
