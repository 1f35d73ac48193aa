-- Bytes that spell a text, whatever follows them (the .mmb format, on unify streams).
use Rattle.std.specs.Prelude.{ℕ, List, ◌++◌}
use Rattle.mz_logic_theory.specs.Tree.{Tree, Trees}
use Rattle.mz_logic_theory.specs.Signature.{Signature}
use Rattle.mz_logic_theory.specs.declared.binder.Binder.{Binder}
use Rattle.mz_machine_theory.specs.Spells.{Text}
use Rattle.mz_machine_theory.specs.Streams.{StreamKind}

abbrev pub SpellsBefore : StreamKind → List Signature → List Binder → List ℕ → Trees → Tree → List Binder → Type 0
SpellsBefore kind sigs params bytes hyps conclusion dummies = (further : List ℕ) → Text kind sigs params (bytes ++ further) hyps conclusion dummies
