-- The text of a pair that is accepted, or what stands first against it (this project's own).
use Rattle.std.specs.Prelude.{◌≡◌, ℕ, List}
use Rattle.mz_base.specs.Checks.{AllHold, FailsFirst}
use Rattle.mz_mmu_theory.specs.Statements.{Statement}
use Rattle.mz_decompile_text.specs.Phrasing.{text_of}
use Rattle.mz_decompile_text.specs.Names.{vocabulary_of}
use Rattle.mz_decompile.specs.Restated.{Restates, Unstated, stating_checks}

-- the text that states the binary's statements, and nothing stands against it
abbrev pub IsPlainText : List ℕ → List ℕ → List ℕ → Type 0
IsPlainText spec bin text = (prefix : List ℕ) × (ts : List Statement) × Restates spec bin prefix ts
    × AllHold (stating_checks (vocabulary_of prefix ts) ts) × (text ≡ text_of (vocabulary_of prefix ts) ts)

-- this stands first against it
abbrev pub IsUnstated : List ℕ → List ℕ → Unstated → Type 0
IsUnstated spec bin u = (prefix : List ℕ) × (ts : List Statement) × Restates spec bin prefix ts
    × FailsFirst (stating_checks (vocabulary_of prefix ts) ts) u
