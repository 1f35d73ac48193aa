-- What crates above may use of these proofs; all else is this crate's own, and may change.
pub use Rattle.mz_lex.proofs.Blanks.{blank-forward}
pub use Rattle.mz_lex.proofs.Lexing.{begun, comparable, ended, one-lexing, one-more, some-lexing}
pub use Rattle.mz_lex.proofs.MathStrings.{has-inside}
pub use Rattle.mz_lex.proofs.Names.{among, longest-name, longest-symbol, starts-no_digit, two-bytes}
pub use Rattle.mz_lex.proofs.OneLexeme.{part-at}
pub use Rattle.mz_lex.proofs.OtherKinds.{longest-math}
pub use Rattle.mz_lex.proofs.Cutting.{math_tokens-one}
pub use Rattle.mz_lex.proofs.Placing.{leads-kept, leads-more, look-is, named, put-is}
pub use Rattle.mz_lex.proofs.Strings.{SoFar, next-first, math_tokens-within, so-far-all, so-far-more, so-far-never, so-far-none, whole-first, whole-more, whole-math_token}
pub use Rattle.mz_lex.proofs.Marking.{unmarked}
