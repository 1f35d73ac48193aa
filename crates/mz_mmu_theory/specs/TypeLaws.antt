-- What follows from the definitions: the statements of the laws that `laws.rt` proves.
use Rattle.std.specs.Prelude.{ℕ, ◌≡◌, ◌⊎◌, ◌↔◌, Bool, true, false, List, All}
use Rattle.mz_base.specs.Checks.{AllHold, FailsFirst}
use Rattle.mz_sexpr.specs.declared.rule.TextRefusal.{TextRefusal}
use Rattle.mz_sexpr.specs.Node.{Nodes}
use Rattle.mz_logic_theory.specs.LegalLists.{LegalBy, allowed_with}
use Rattle.mz_mmu_theory.specs.Statements.{HasGapsOnly, Statement, AreStatements}
use Rattle.mz_mmu_theory.specs.Name.{no_names}
use Rattle.mz_mmu_theory.specs.TextRules.{text_rules}
use Rattle.mz_mmu_theory.specs.TextOf.{TextOf, TextFault}
use Rattle.mz_mmu_theory.specs.Weight.{Passed, Passes, IsWithinLimits}
use Rattle.mz_mmu_theory.specs.Meaning.{LegalAsStated, marked}

-- of statements that are read: all type rules hold exactly where the statements are legal by the
-- stated proofs
abbrev pub RulesAreTheMeaning : Type 0
RulesAreTheMeaning = (gaps : Bool) (ns : Nodes) (ss : List Statement) → AreStatements (no_names gaps) ns ss → AllHold (text_rules ns ss) ↔ LegalAsStated gaps ss

-- a list that is legal by stated proofs is legal, in a draft with gaps
abbrev pub StatedIsLegal : Type 0
StatedIsLegal = (gaps : Bool) (ss : List Statement) → LegalAsStated gaps ss → LegalBy (allowed_with gaps) (marked ss)

-- statements are legal as stated or break a rule first, never both, and one rule at one place
pub record AreTypedOrRefused (gaps : Bool) (ns : Nodes) (ss : List Statement) : Type 0 where
  pub one_of_both : LegalAsStated gaps ss ⊎ ((r : TextRefusal) × FailsFirst (text_rules ns ss) r)
  pub never_both : (r : TextRefusal) → LegalAsStated gaps ss → FailsFirst (text_rules ns ss) r → ⊥
  pub one_refusal : (q r : TextRefusal) → FailsFirst (text_rules ns ss) q → FailsFirst (text_rules ns ss) r → q ≡ r

abbrev pub EachTypedOrRefused : Type 0
EachTypedOrRefused = (gaps : Bool) (ns : Nodes) (ss : List Statement) → AreStatements (no_names gaps) ns ss → AreTypedOrRefused gaps ns ss

-- each list of statements is within the limits or passes one first, never both, and one with one count
pub record IsLimited (ss : List Statement) : Type 0 where
  pub one_of_both : IsWithinLimits ss ⊎ ((p : Passed) × Passes ss p)
  pub never_both : (p : Passed) → IsWithinLimits ss → Passes ss p → ⊥
  pub one_passes : (p q : Passed) → Passes ss p → Passes ss q → p ≡ q

abbrev pub EachIsLimited : Type 0
EachIsLimited = (ss : List Statement) → IsLimited ss

-- a text is well typed or has a first fault, never both, and one of either
pub record IsTypedOrFaulty (gaps : Bool) (text : List ℕ) : Type 0 where
  pub one_of_both : ((ss : List Statement) × TextOf gaps text ss) ⊎ ((r : TextRefusal) × TextFault gaps text r)
  pub never_both : (ss : List Statement) (r : TextRefusal) → TextOf gaps text ss → TextFault gaps text r → ⊥
  pub one_list : (ss ts : List Statement) → TextOf gaps text ss → TextOf gaps text ts → ss ≡ ts
  pub one_fault : (q r : TextRefusal) → TextFault gaps text q → TextFault gaps text r → q ≡ r

-- a finished text is one of a draft, too; and a draft whose proofs have no gap is finished
pub record ModesAgree (text : List ℕ) : Type 0 where
  pub finished_is_draft : (ss : List Statement) → TextOf false text ss → TextOf true text ss
  pub draft_is_finished : (ss : List Statement) → All (HasGapsOnly ⊥) ss → TextOf true text ss → TextOf false text ss
