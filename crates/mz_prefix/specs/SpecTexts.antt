-- What making a specification of a text answers (this project's own answers).
use Rattle.std.specs.Prelude.{◌≡◌, ◌⊎◌, ⊤, ℕ, false, List}
use Rattle.mz_base.specs.Checks.{AllHold}
use Rattle.mz_mmu_theory.specs.Statements.{Statement}
use Rattle.mz_sexpr.specs.declared.rule.TextRefusal.{TextRefusal}
use Rattle.mz_mmu_theory.specs.TextOf.{TextOf, TextFault}
use Rattle.mz_prefix.specs.AgreeLaws.{DeclaresText}
use Rattle.mz_prefix.specs.Wording.{Unwritten, local_in, long_in, too_long, wording_checks, IsWordedAs, IsUnwritten}
use Rattle.mz_prefix.specs.declared.spec_text.SpecText.{SpecText}
use Rattle.mz_prefix.specs.declared.spec_text.SpecText.TheVariants as answers

-- where a specification may have at most so many bytes; out of memory says nothing
abbrev pub IsWording : ℕ → List ℕ → SpecText → Type 0
IsWording limit text (answers.Text bytes) = IsWordedAs limit text bytes.items
IsWording limit text (answers.Refused refusal) = TextFault false text refusal
IsWording limit text (answers.Local statement) = IsUnwritten limit text (local_in statement)
IsWording limit text (answers.Long statement) = IsUnwritten limit text (long_in statement)
IsWording limit text (answers.Limit count) = IsUnwritten limit text (too_long count)
IsWording limit text answers.Mem = ⊤

-- what a specification declares agrees with the text's public statements; the other answers declare nothing
abbrev pub DeclaresItsText : List ℕ → SpecText → Type 0
DeclaresItsText text (answers.Text bytes) = DeclaresText bytes.items text
DeclaresItsText text (answers.Refused refusal) = ⊤
DeclaresItsText text (answers.Local statement) = ⊤
DeclaresItsText text (answers.Long statement) = ⊤
DeclaresItsText text (answers.Limit count) = ⊤
DeclaresItsText text answers.Mem = ⊤

-- the text is well typed, and nothing stands against a specification
abbrev pub HasWording : ℕ → List ℕ → Type 0
HasWording limit text = (ss : List Statement) × TextOf false text ss × AllHold (wording_checks limit ss)

-- each text has a specification, or one first fault, or one thing that stands first against a specification; and never two
-- of these
pub record IsDecided (limit : ℕ) (text : List ℕ) : Type 0 where
  pub one_of_three : HasWording limit text ⊎ (((r : TextRefusal) × TextFault false text r) ⊎ ((u : Unwritten) × IsUnwritten limit text u))
  pub not_refused : (r : TextRefusal) → HasWording limit text → TextFault false text r → ⊥
  pub not_unwritten : (u : Unwritten) → HasWording limit text → IsUnwritten limit text u → ⊥
  pub not_both : (u : Unwritten) (r : TextRefusal) → IsUnwritten limit text u → TextFault false text r → ⊥
  pub one_wording : (spec other : List ℕ) → IsWordedAs limit text spec → IsWordedAs limit text other → spec ≡ other
  pub one_unwritten : (u w : Unwritten) → IsUnwritten limit text u → IsUnwritten limit text w → u ≡ w
  pub one_fault : (q r : TextRefusal) → TextFault false text q → TextFault false text r → q ≡ r
