-- What `accepted` promises, said of the specification alone: neither this nor anything on which it rests speaks of a
-- binary (mm0.md, section on theorems; Carneiro: a specification is proved where a list of statements extends it by
-- definitions and theorems alone).
use Rattle.std.specs.Prelude.{ℕ, List, []}
use Rattle.mz_logic_theory.specs.Declaration.{Declaration}
use Rattle.mz_logic_theory.specs.LegalLists.{Statement}
use Rattle.mz_spec_proved_theory.specs.WellFormed.{IsLegalAfter}
use Rattle.mz_spec_proved_theory.specs.Declares.{DeclareAfter}
use Rattle.mz_spec_proved_theory.specs.Specifies.{Specifies}

-- The specification is proved: there is a legal list of statements, in which each definition has its body and each theorem
-- a derivation, without gaps, from its hypotheses over the statements before it; and the public ones are what the
-- specification declares, one by one. Only definitions and theorems may be local, so all axioms are the specification's.
pub record Proves (spec : List ℕ) : Type 0 where
  pub declared : List Declaration
  pub statements : List Statement
  pub is_spec : Specifies spec declared
  pub legal : IsLegalAfter [] statements
  pub agrees : DeclareAfter [] declared statements
