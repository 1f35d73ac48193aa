-- What crates above may use of these proofs; all else is this crate's own, and may change.
pub use Rattle.mz_math_theory.proofs.Clearing.{infix-groups, infix-kept, infix-level, infix-other, leading-kept, leading-other, with-infix-clear, with-leading-clear}
pub use Rattle.mz_math_theory.proofs.Constants.{fixed-level, fixed-same, joined-one, led-one}
pub use Rattle.mz_math_theory.proofs.Deciding.{equal-decided, found}
pub use Rattle.mz_math_theory.proofs.Existing.{some-reading}
pub use Rattle.mz_math_theory.proofs.Judging.{goal-found, judged-claim, judged-high, judged-no-path, judged-no-sort, known-all, known-then, same-sort, unknown-first}
pub use Rattle.mz_math_theory.proofs.Knowing.{known-constant, known-last, known-name, known-parenthesis}
pub use Rattle.mz_math_theory.proofs.KnownTokens.{AllKnown, checks-hold, known-both, read-known}
pub use Rattle.mz_math_theory.proofs.Lawful.{notations-keep, one-meaning, one-misreading, one-reading, one-tokens, one-tree}
pub use Rattle.mz_math_theory.proofs.Listing.{constant-at, constant-listed, keeps, keeps-own, listed-element, listed-keeps, listed-own, none-at, slot-no-constant}
pub use Rattle.mz_math_theory.proofs.MadeNotations.{general-judged, infix-judged, prefix-judged, some-with}
pub use Rattle.mz_math_theory.proofs.Meanings.{add-application, add-variable, all-length, app-coerced, fits-bound, fits-never, fits-other, fits-path, fits-regular, height-some, high-operands, none-left, operand-low, operands-there, pushed-all, put-one, take-one, too-high, trees_height-push}
pub use Rattle.mz_math_theory.proofs.Paths.{clash-two, contains-middle, no-return, path-join, path-more, path-reaches, path-short, stays-one, taken}
pub use Rattle.mz_math_theory.proofs.Readable.{table-readable}
pub use Rattle.mz_math_theory.proofs.Readings.{applied-begun, applied-low, applied-never, begun-read, joined-more, joined-never, joined-stuck, leading-begun, leading-low, leading-never, low-infix, never-read, no-expr, no-items, no-rest, no-token, no-tokens, none-begins, not-infix, one-part, one-token, parens-begun, parens-never, parens-open, some-left, variable-begun}
pub use Rattle.mz_math_theory.proofs.Statements.{coercions-judged, delimiters-judged}
pub use Rattle.mz_math_theory.proofs.Tables.{added-answer, added-err, added-mem, added-ok, coercion-is, delimiter-answer, delimiters-is, elements-one, empty-is, empty-made, form-answer, general-one, general-shaped, infix-constant, infix-is, infix-one, infix-shaped, leading-is, name-is, prefix-constant, prefix-one, prefix-shaped, pushed-infix, pushed-leading, shaped-constant, shaped-slot, variables-more, with-constant, with-slot}
