-- What crates above may use of these proofs; all else is this crate's own, and may change.
pub use Rattle.mz_spec_proved_theory.proofs.ByItself.{follows-itself}
pub use Rattle.mz_spec_proved_theory.proofs.FormedLegally.{concrete-list, formed-list, legal-list}
pub use Rattle.mz_spec_proved_theory.proofs.Grounded.{needs-axiom}
pub use Rattle.mz_spec_proved_theory.proofs.Lists.{drop-entry, drop-further, drop-past, kinds-total, leaves-local, leaves-nothing, leaves-public, left-next, left-same, length-declarations, length-env, partner-there, publics-append, publics-local, publics-public, term_rows-append}
pub use Rattle.mz_spec_proved_theory.proofs.OwnBodies.{own_pairs, paired-own, pairs-own}
pub use Rattle.mz_spec_proved_theory.proofs.ProvingTheorems.{never-local, theorems-proved, ungapped-proved}
pub use Rattle.mz_spec_proved_theory.proofs.Renaming.{SaysNothing, complete, no-dummy, no-pairs, says-nothing, sound, weaker}
pub use Rattle.mz_spec_proved_theory.proofs.SameDeclared.{agree, declare}
pub use Rattle.mz_spec_proved_theory.proofs.SameDecided.{same-body-decided, same-tree-decided, same-trees-decided}
pub use Rattle.mz_spec_proved_theory.proofs.Specifying.{specifies, specifies-one}
