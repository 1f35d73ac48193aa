-- What is promised of the text of a pair that is accepted (this project's own).
use Rattle.std.specs.Prelude.{◌≡◌, ◌<◌, ◌^◌, ℕ, false, List, length, slice_index}
use Rattle.mz_mmu_theory.specs.Statements.{Statement}
use Rattle.mz_mmu_theory.specs.Meaning.{marked}
use Rattle.mz_mmu_theory.specs.TextOf.{TextOf}
use Rattle.mz_mmu_theory.specs.Weight.{IsWithinLimits}
use Rattle.mz_binary_theory.specs.Chains.{Statements}
use Rattle.mz_match_theory.specs.Verdict.{Accepts}
use Rattle.mz_decompile.specs.Restated.{Restates}
use Rattle.mz_decompile.specs.Texts.{IsPlainText}

-- the statements of each pair that is accepted can be restated
abbrev pub AcceptedAreRestated : Type 0
AcceptedAreRestated = (spec bin : List ℕ) → Accepts spec bin → (prefix : List ℕ) × (ts : List Statement) × Restates spec bin prefix ts

-- in one way
abbrev pub RestatedAlike : Type 0
RestatedAlike = (spec bin prefix other : List ℕ) (ts us : List Statement) → Restates spec bin prefix ts → Restates spec bin other us → (prefix ≡ other) × (ts ≡ us)

-- The text is well typed, says the binary's statements, and is within the compiler's limits.
pub record IsTextOfBinary (bin text : List ℕ) : Type 0 where
  pub statements : List Statement
  pub typed : TextOf false text statements
  pub spelled : Statements bin (marked statements)
  pub within : IsWithinLimits statements

-- numbers that are bytes
abbrev pub AreBytes : List ℕ → Type 0
AreBytes bytes = (i : ℕ) → slice_index bytes i < 256

abbrev pub PlainTextsAreTexts : Type 0
PlainTextsAreTexts = (spec bin text : List ℕ) → AreBytes bin → length bin < 2 ^ 32 → IsPlainText spec bin text → IsTextOfBinary bin text
