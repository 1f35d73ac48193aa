-- What crates above may use of these proofs; all else is this crate's own, and may change.
pub use Rattle.mz_prefix.proofs.Lexing.{via-spaces, words-are-lexemes}
pub use Rattle.mz_prefix.proofs.PlainLines.{blank-first, line-is, stop-is}
pub use Rattle.mz_prefix.proofs.PrintedLines.{Step, behind-nothing, its-dummies, line-plain, step-of}
pub use Rattle.mz_prefix.proofs.ReadFormulas.{AllMeant, IsBehind}
pub use Rattle.mz_prefix.proofs.Spelling.{lines-spell}
pub use Rattle.mz_prefix.proofs.Statements.{GoodBy, good-by}
