-- What crates above may use of these proofs; all else is this crate's own, and may change.
pub use Rattle.mz_spec_rules.proofs.Judged.{few-params, few-sorts, few-terms, parts-halt, parts-hold, parts-names, rest-halt}
pub use Rattle.mz_spec_rules.proofs.NamesAlone.{new-apart}
pub use Rattle.mz_spec_rules.proofs.TableChanges.{delimiters-same, names-many, notation-same, over_table, same-names, term-pushed}
