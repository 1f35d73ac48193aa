-- Statements of a text that stand in the list of a binary, one after another.
use Rattle.std.specs.Prelude.{ℕ, List, [], ◌∷◌, ◌++◌}
use Rattle.mz_base.specs.Checks.{AllHold}
use Rattle.mz_logic_theory.specs.Declaration.{Declaration}
use Rattle.mz_layout_tables.specs.Heads.{IsHeadAt, head_checks}
use Rattle.mz_layout_tables.specs.declared.head.Head.{Head}
use Rattle.mz_binary_theory.specs.Chains.{IsListEnd}
use Rattle.mz_binary_walk.specs.Walk.{nothing_passed, passed_with}
use Rattle.mz_binary_walk.specs.declared.passed.Passed.{Passed}
use Rattle.mz_mmu_theory.specs.Statements.{Statement}
use Rattle.mz_decompile_text.specs.Naming.{Naming}
use Rattle.mz_decompile.specs.Telling.{Stands}

-- behind what was passed, which declares env, each stands at its place, where nothing fails, up to the end of the list
abbrev pub AreStanding : List ℕ → Naming → Passed → List Declaration → List Statement → Type 0
AreStanding file names p env [] = AllHold (head_checks file p.rows p.at) × IsListEnd file p.at
AreStanding file names p env (t ∷ ts) = (head : Head) × AllHold (head_checks file p.rows p.at) × IsHeadAt file p.at head × Stands file names p.rows env head t
    × AreStanding file names (passed_with p head) (env ++ t.decl ∷ []) ts

-- all statements of the binary
abbrev pub AreAll : List ℕ → Naming → List Statement → Type 0
AreAll file names ts = AreStanding file names (nothing_passed file) [] ts

abbrev pub SomeAreAll : List ℕ → Naming → Type 0
SomeAreAll file names = (ts : List Statement) × AreAll file names ts
