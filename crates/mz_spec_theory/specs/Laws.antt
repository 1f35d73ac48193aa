-- What holds of every text.
use Rattle.std.specs.Prelude.{◌≡◌, ◌⊎◌, ℕ, List}
use Rattle.mz_logic_theory.specs.Declaration.{Declaration}
use Rattle.mz_logic_theory.specs.Legality.{IsLegalEnv}
use Rattle.mz_spec_theory.specs.declared.spec_refusal.SpecRefusal.{SpecRefusal}
use Rattle.mz_spec_theory.specs.State.{Entry}
use Rattle.mz_spec_theory.specs.Spec.{SpecMakes, SpecOf, SpecFault}

-- a text is a specification in one way at most
abbrev pub OneReading : Type 0
OneReading = (text : List ℕ) (entries others : List Entry) → SpecMakes text entries → SpecMakes text others → entries ≡ others

-- it has one first fault at most
abbrev pub OneFault : Type 0
OneFault = (text : List ℕ) (a b : SpecRefusal) → SpecFault text a → SpecFault text b → a ≡ b

-- never both
abbrev pub NotBoth : Type 0
NotBoth = (text : List ℕ) (entries : List Entry) (refusal : SpecRefusal) → SpecMakes text entries → SpecFault text refusal → ⊥

-- and always one of them
abbrev pub OneOfBoth : Type 0
OneOfBoth = (text : List ℕ) → ((entries : List Entry) × SpecMakes text entries) ⊎ ((refusal : SpecRefusal) × SpecFault text refusal)

-- what a text declares is legal
abbrev pub DeclaresLegally : Type 0
DeclaresLegally = (text : List ℕ) (ds : List Declaration) → SpecOf text ds → IsLegalEnv ds
