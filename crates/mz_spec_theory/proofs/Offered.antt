-- What crates above may use of these proofs; all else is this crate's own, and may change.
pub use Rattle.mz_spec_theory.proofs.Adding.{are_signs-append, leads-spells}
pub use Rattle.mz_spec_theory.proofs.Good.{good-binders, good-form, good-levels, good-mentions, good-new, good-others, good-types}
pub use Rattle.mz_spec_theory.proofs.Grammar.{IsOpen, leads-prefix, misfit-prefix, no-empty, open-statement, statements-one}
pub use Rattle.mz_spec_theory.proofs.Keeping.{general-other, kept-after, kept-nothing, kept-written, makes-one}
pub use Rattle.mz_spec_theory.proofs.Leading.{leads-append, signs-split}
pub use Rattle.mz_spec_theory.proofs.Legal.{declared-legal, good-own, legal-written}
pub use Rattle.mz_spec_theory.proofs.Loops.{assoc, fails-front, item-is, item-step, items-end, judges-behind, mem-after, mem-before, mem-decided, rows-fail, rows-step, test-in, test-out}
pub use Rattle.mz_spec_theory.proofs.NameSpans.{entries-decls, entries-spans}
pub use Rattle.mz_spec_theory.proofs.Naming.{IsNamed, IsOfKind, IsWritten, body-small, every-front, every-join, parts-few, stated-small, variables-named, variables-written}
pub use Rattle.mz_spec_theory.proofs.OneAfter.{delimiters-one}
pub use Rattle.mz_spec_theory.proofs.OneAnswer.{fault-or-blank, lexemes-long, one-fault as one-fault-OneAnswer, one-read, read-or-blank, read-or-fault, signs-long, takes-bytes}
pub use Rattle.mz_spec_theory.proofs.OneSpec.{declares-legally, kinds-split, lexes-kinds, not-both, one-fault, one-reading, stand-kept}
pub use Rattle.mz_spec_theory.proofs.Places.{binder-at, dummy-at, front-variables, next-named, next-other, one-place, param-at, split-variables}
pub use Rattle.mz_spec_theory.proofs.SomeSpec.{one-of-both}
pub use Rattle.mz_spec_theory.proofs.Sorted.{body-sorted}
pub use Rattle.mz_spec_theory.proofs.Stopping.{not-both as not-both-Stopping, one-of-all, one-statement, stops-one}
pub use Rattle.mz_spec_theory.proofs.Strung.{all-strings, before-halt, free-none, last-halt, stated-of_formulas, stated-to_formulas}
pub use Rattle.mz_spec_theory.proofs.Tokens.{formulas-tokens}
pub use Rattle.mz_spec_theory.proofs.VariablePlaces.{all-places, all-seen, among, bound-place, every-join as every-join-Places, get-back, get-take, no-deps, nothing-among}
