-- Well-typed texts, and the first fault of the others (this project's own answers).
use Rattle.std.specs.Prelude.{ℕ, Bool, List, ◌⊎◌}
use Rattle.mz_base.specs.Checks.{FailsFirst}
use Rattle.mz_sexpr.specs.declared.rule.TextRefusal.{TextRefusal}
use Rattle.mz_sexpr.specs.Node.{Nodes}
use Rattle.mz_mmu_theory.specs.Statements.{Statement, Reads}
use Rattle.mz_mmu_theory.specs.StatementOrder.{Refuses as IsMisread}
use Rattle.mz_mmu_theory.specs.TextRules.{text_rules}
use Rattle.mz_mmu_theory.specs.Meaning.{LegalAsStated}

-- the text reads as these statements, and they are legal by the stated proofs; in a draft these may have gaps
abbrev pub TextOf : Bool → List ℕ → List Statement → Type 0
TextOf gaps text ss = ((ns : Nodes) × Reads gaps text ns ss) × LegalAsStated gaps ss

-- its first fault: of bytes, parentheses, forms and names, or, where it reads, the first type rule
-- that doesn't hold
abbrev pub TextFault : Bool → List ℕ → TextRefusal → Type 0
TextFault gaps text r = IsMisread gaps text r ⊎ ((ns : Nodes) × (ss : List Statement) × Reads gaps text ns ss × FailsFirst (text_rules ns ss) r)
