-- What checking the type rules of a text answers.
use Rattle.std.specs.Prelude.{ℕ, ◌≡◌, ⊤, List}
use Rattle.mz_base.specs.Checks.{FailsFirst}
use Rattle.mz_mmu_theory.specs.TextView.{Forms}
use Rattle.mz_mmu.specs.declared.text.TextStop.{TextStop}
use Rattle.mz_mmu.specs.declared.text.TextStop.TheVariants as text_stop
use Rattle.mz_mmu_theory.specs.Meaning.{LegalAsStated}
use Rattle.mz_mmu_theory.specs.TextRules.{text_rules}
use Rattle.mz_mmu_theory.specs.TextOf.{TextOf, TextFault}
use Rattle.mz_type.specs.declared.typed.TypedRead.{TypedRead}
use Rattle.mz_type.specs.declared.typed.TypedRead.TheVariants as read

-- the text's statements, which are legal by the stated proofs; or the first type rule that doesn't hold
abbrev pub IsTyping : Forms → TypedRead → Type 0
IsTyping text (read.Typed t) = (t.gaps ≡ text.gaps) × (t.statements ≡ text.statements) × LegalAsStated text.gaps text.statements
IsTyping text (read.Refused r) = FailsFirst (text_rules text.nodes text.statements) r
IsTyping text read.Mem = ⊤

-- the same of the bytes from which the text was read: they are a well-typed text, or this is their
-- first fault
abbrev pub IsTypingOf : List ℕ → Forms → TypedRead → Type 0
IsTypingOf bytes text (read.Typed t) = TextOf text.gaps bytes text.statements
IsTypingOf bytes text (read.Refused r) = TextFault text.gaps bytes r
IsTypingOf bytes text read.Mem = ⊤

-- the text's stop, as its answer
abbrev pub IsRefusal : TextStop → TypedRead → Type 0
IsRefusal (text_stop.Refused r) a = a ≡ read.Refused r
IsRefusal text_stop.Mem a = a ≡ read.Mem
