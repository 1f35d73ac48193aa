-- What making a text of a binary answers (this project's own answers).
use Rattle.std.specs.Prelude.{◌≡◌, ◌⊎◌, ◌+◌, ⊤, ℕ, false, List}
use Rattle.mz_binary_theory.specs.FileRun.{file_steps}
use Rattle.mz_binary_theory.specs.Standards.{strict_standard}
use Rattle.mz_emit_theory.specs.Compiling.{IsCompilable, CompilesTo}
use Rattle.mz_match_theory.specs.declared.verdict.Verdict.{Verdict}
use Rattle.mz_match_theory.specs.Verdict.{Accepts, FirstRefusal, Ticks}
use Rattle.mz_decompile.specs.Restated.{Unstated, deep, too_long}
use Rattle.mz_decompile.specs.Laws.{IsTextOfBinary}
use Rattle.mz_decompile.specs.Texts.{IsPlainText, IsUnstated}
use Rattle.mz_decompile.specs.declared.decompiled.Decompiled.{Decompiled}
use Rattle.mz_decompile.specs.declared.decompiled.Decompiled.TheVariants as answers

-- the text of a pair that is accepted, or the pair's first refusal, or what stands first against the text; out of memory
-- says nothing
abbrev pub IsDecompilation : List ℕ → List ℕ → Decompiled → Type 0
IsDecompilation spec bin (answers.Text text) = IsPlainText spec bin text.items
IsDecompilation spec bin (answers.Refused verdict) = FirstRefusal spec bin verdict
IsDecompilation spec bin (answers.Deep statement) = IsUnstated spec bin (deep statement)
IsDecompilation spec bin (answers.Limit count) = IsUnstated spec bin (too_long count)
IsDecompilation spec bin answers.Mem = ⊤

-- The text is well typed and says the binary's statements; it can be compiled, and what it compiles to is accepted against
-- the specification again.
pub record IsTextFor (spec bin text : List ℕ) : Type 0 where
  pub states : IsTextOfBinary bin text
  pub compiles : IsCompilable false text
  pub accepted : (bytes : List ℕ) → CompilesTo false text bytes → Accepts spec bytes

abbrev pub IsTextForPair : List ℕ → List ℕ → Decompiled → Type 0
IsTextForPair spec bin (answers.Text text) = IsTextFor spec bin text.items
IsTextForPair spec bin (answers.Refused verdict) = ⊤
IsTextForPair spec bin (answers.Deep statement) = ⊤
IsTextForPair spec bin (answers.Limit count) = ⊤
IsTextForPair spec bin answers.Mem = ⊤

-- the steps counted are those of the verification
abbrev pub TicksAs : List ℕ → (old new : ℕ) → Decompiled → Type 0
TicksAs bin old new (answers.Text text) = new ≡ old + file_steps strict_standard bin
TicksAs bin old new (answers.Refused verdict) = Ticks bin old new verdict
TicksAs bin old new (answers.Deep statement) = new ≡ old + file_steps strict_standard bin
TicksAs bin old new (answers.Limit count) = new ≡ old + file_steps strict_standard bin
TicksAs bin old new answers.Mem = ⊤

-- each pair that is accepted has a text, or one thing that stands first against it; and never both, nor a refusal beside
pub record IsDecided (spec bin : List ℕ) : Type 0 where
  pub one_of_two : Accepts spec bin → ((text : List ℕ) × IsPlainText spec bin text) ⊎ ((u : Unstated) × IsUnstated spec bin u)
  pub text_accepted : (text : List ℕ) → IsPlainText spec bin text → Accepts spec bin
  pub unstated_accepted : (u : Unstated) → IsUnstated spec bin u → Accepts spec bin
  pub not_refused : (verdict : Verdict) → Accepts spec bin → FirstRefusal spec bin verdict → ⊥
  pub not_both : (text : List ℕ) (u : Unstated) → IsPlainText spec bin text → IsUnstated spec bin u → ⊥
  pub one_text : (text other : List ℕ) → IsPlainText spec bin text → IsPlainText spec bin other → text ≡ other
  pub one_unstated : (u w : Unstated) → IsUnstated spec bin u → IsUnstated spec bin w → u ≡ w
