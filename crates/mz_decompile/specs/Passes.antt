-- What the two passes over the statements give.
use Rattle.std.specs.Prelude.{◌≡◌, ◌<◌, ◌↔◌, ⊤, IsTrue, List, ◌++◌, length, codes}
use Rattle.mz_base.specs.Checks.{AllHold, FailsFirst}
use Rattle.mz_sexpr.specs.Node.{depth_limit}
use Rattle.mz_logic_theory.specs.Declaration.{Declaration}
use Rattle.mz_mmu_theory.specs.Statements.{Statement}
use Rattle.mz_mmu_theory.specs.Weight.{statement_weight, weight_of}
use Rattle.mz_decompile_text.specs.Phrases.{depth, written}
use Rattle.mz_decompile_text.specs.Phrasing.{Vocabulary, statement, text_of}
use Rattle.mz_decompile_text.specs.Measures.{capped}
use Rattle.mz_decompile.specs.Restated.{deep, depth_checks, too_long, stating_checks}
use Rattle.mz_decompile.specs.declared.decompiled.Decompiled.{Decompiled}
use Rattle.mz_decompile.specs.declared.decompiled.Decompiled.TheVariants as answers
use Rattle.mz_decompile.specs.declared.measure.Measured.{Measured}
use Rattle.mz_decompile.specs.declared.measure.Measured.TheVariants as measured
use Rattle.mz_decompile.specs.declared.measure.Line.{Line}
use Rattle.mz_decompile.specs.declared.measure.Sizes.{Sizes}

-- of one statement
pub record AreSizes (v : Vocabulary) (env : List Declaration) (t : Statement) (s : Sizes) : Type 0 where
  pub length_is : s.len ≡ capped (length (written (statement v t) ++ codes "\n"))
  pub weight_is : s.weight ≡ capped (statement_weight env t)

-- the lengths and weights of all, or the first that is too deep
abbrev pub IsMeasured : Vocabulary → List Statement → Measured → Type 0
IsMeasured v ts (measured.Whole s) = AllHold (depth_checks v 1 ts) × (s.len ≡ capped (length (text_of v ts))) × (s.weight ≡ capped (weight_of ts))
IsMeasured v ts (measured.Deep k) = FailsFirst (depth_checks v 1 ts) (deep k)

-- the text, where nothing stands against it; and what stands first
abbrev pub IsAnswer : Vocabulary → List Statement → Decompiled → Type 0
IsAnswer v ts (answers.Text text) = AllHold (stating_checks v ts) × (text.items ≡ text_of v ts)
IsAnswer v ts (answers.Refused verdict) = ⊥
IsAnswer v ts (answers.Deep k) = FailsFirst (stating_checks v ts) (deep k)
IsAnswer v ts (answers.Limit count) = FailsFirst (stating_checks v ts) (too_long count)
IsAnswer v ts answers.Mem = ⊥

-- of one statement, and whether it is too deep
pub record IsLine (v : Vocabulary) (env : List Declaration) (t : Statement) (line : Line) : Type 0 where
  pub sizes : AreSizes v env t line.sizes
  pub deep : IsTrue line.deep ↔ (depth_limit < depth (statement v t))

-- a text, or what stands against it
abbrev pub IsOfAccepted : Decompiled → Type 0
IsOfAccepted (answers.Text text) = ⊤
IsOfAccepted (answers.Refused verdict) = ⊥
IsOfAccepted (answers.Deep k) = ⊤
IsOfAccepted (answers.Limit count) = ⊤
IsOfAccepted answers.Mem = ⊥
