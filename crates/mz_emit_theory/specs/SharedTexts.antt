-- Bytes that spell a text, whatever follows them (the .mmb format, on unify streams), and build no application twice once
-- all its dummies are met.
use Rattle.std.specs.Prelude.{◌≡◌, ℕ, List, ◌++◌}
use Rattle.mz_logic_theory.specs.Tree.{Tree, Trees}
use Rattle.mz_logic_theory.specs.Signature.{Signature}
use Rattle.mz_logic_theory.specs.declared.binder.Binder.{Binder}
use Rattle.mz_machine_theory.specs.Streams.{StreamKind, UnifyCommand}
use Rattle.mz_emit_theory.specs.Sharing.{SharedStream}
use Rattle.mz_emit_theory.specs.SpellsBefore.{SpellsBefore}
use Rattle.mz_emit_theory.specs.StreamWriting.{stream_of, AreShort}

abbrev pub SharesBefore : StreamKind → List Signature → List Binder → List ℕ → Trees → Tree → Type 0
SharesBefore kind sigs params bytes hyps conclusion = (further : List ℕ) → SharedStream kind sigs params (bytes ++ further) hyps conclusion

-- They are commands, each in its shortest spelling, and END; they spell the text with these dummies, and share what they
-- build.
pub record IsSharedText (kind : StreamKind) (sigs : List Signature) (params : List Binder) (bytes : List ℕ) (hyps : Trees) (conclusion : Tree) (dummies : List Binder) : Type 0 where
  pub commands : List UnifyCommand
  pub written : bytes ≡ stream_of commands
  pub short : AreShort commands
  pub spells : SpellsBefore kind sigs params bytes hyps conclusion dummies
  pub shares : SharesBefore kind sigs params bytes hyps conclusion
