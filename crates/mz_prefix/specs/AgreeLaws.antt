-- What the specification that is written of a text declares (mm0.md, section on the grammar; the match and the naming are this
-- project's own).
use Rattle.std.specs.Prelude.{◌<◌, ◌^◌, ℕ, false, List}
use Rattle.mz_logic_theory.specs.Declaration.{Declaration}
use Rattle.mz_mmu_theory.specs.Statements.{Statement}
use Rattle.mz_mmu_theory.specs.Meaning.{marked}
use Rattle.mz_mmu_theory.specs.TextOf.{TextOf}
use Rattle.mz_spec_theory.specs.Spec.{SpecOf}
use Rattle.mz_spec_proved_theory.specs.Match.{publics, Agrees}
use Rattle.mz_prefix.specs.Wording.{IsWordedAs}

-- what it declares agrees with the text's public statements, as the match compares them
pub record DeclaresText (spec text : List ℕ) : Type 0 where
  pub declared : List Declaration
  pub is_spec : SpecOf spec declared
  pub agrees : (ss : List Statement) → TextOf false text ss → Agrees declared (publics (marked ss))

-- each specification that is written of a text declares it; with 64 bits for its length, there are names for all its variables
abbrev pub SpecificationsOfTextsDeclare : Type 0
SpecificationsOfTextsDeclare = (limit : ℕ) (text spec : List ℕ) → limit < 2 ^ 64 → IsWordedAs limit text spec → DeclaresText spec text
