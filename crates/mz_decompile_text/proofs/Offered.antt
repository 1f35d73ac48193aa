-- What crates above may use of these proofs; all else is this crate's own, and may change.
pub use Rattle.mz_decompile_text.proofs.Named.{named-alike}
pub use Rattle.mz_decompile_text.proofs.Atoms.{name-atom, plain-atom}
pub use Rattle.mz_decompile_text.proofs.Behind.{Declares, behind-none, behind-more}
pub use Rattle.mz_decompile_text.proofs.Binders.{good-params, params-said}
pub use Rattle.mz_decompile_text.proofs.Exprs.{Known, a-new-name, a-term, expr-list-said, expr-said}
pub use Rattle.mz_decompile_text.proofs.NoKeyword.{no-conv-word}
pub use Rattle.mz_decompile_text.proofs.Numbers.{numbered-upto, new-upto, upto}
pub use Rattle.mz_decompile_text.proofs.Saying.{AllSay, Says, a-list, a-word, all-so, done, key, take}
pub use Rattle.mz_decompile_text.proofs.Stated.{statement-said}
pub use Rattle.mz_decompile_text.proofs.Steps.{proof-said}
pub use Rattle.mz_decompile_text.proofs.Written.{lines-spell}
pub use Rattle.mz_decompile_text.proofs.LongerProofs.{grows-on, same-phrase}
