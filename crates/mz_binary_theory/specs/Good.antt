-- Good binaries, and the first fault of another (the .mmb format, its list of statements; the order of faults is this
-- project's own).
use Rattle.std.specs.Prelude.{◌≡◌, ◌⊎◌, ℕ, ◌+◌, List, [], length}
use Rattle.mz_base.specs.Checks.{FailsFirst}
use Rattle.mz_cmd.specs.declared.rule.Refusal.{Refusal}
use Rattle.mz_logic_theory.specs.Declaration.{Declaration}
use Rattle.mz_logic_theory.specs.LegalLists.{Statement}
use Rattle.mz_layout_tables.specs.Tables.{list_at}
use Rattle.mz_layout_tables.specs.Layout.{Layout, layout_checks}
use Rattle.mz_binary_theory.specs.Checking.{list_checks}
use Rattle.mz_binary_theory.specs.Chains.{GoodTo, EndsAt}
use Rattle.mz_binary_theory.specs.Standards.{Standard, strict_standard}

-- header and tables are in order, and these are the statements, all good, of the whole list
pub record Good (standard : Standard) (file : List ℕ) (ss : List Statement) : Type 0 where
  pub layout : Layout file
  pub env : List Declaration
  pub to : ℕ
  pub statements : GoodTo standard file [] (list_at file) ss env to
  pub ends : EndsAt standard file env to

-- a binary that is good, with its statements
abbrev pub IsGood : List ℕ → Type 0
IsGood file = (ss : List Statement) × Good strict_standard file ss

-- header and tables are in order, these statements, which declare env, are good, and after them the refusal's rule is
-- the first that fails
pub record FailsAfter (standard : Standard) (file : List ℕ) (ss : List Statement) (env : List Declaration) (at : ℕ) (refusal : Refusal) : Type 0 where
  pub layout : Layout file
  pub statements : GoodTo standard file [] (list_at file) ss env at
  pub number : refusal.statement ≡ length ss + 1
  pub fails : FailsFirst (list_checks standard file env at) (refusal.at, refusal.rule)

-- the first fault of a file: of header and tables, as statement 0, or else of a statement
abbrev pub BinaryFault : Standard → List ℕ → Refusal → Type 0
BinaryFault standard file refusal =
    ((refusal.statement ≡ 0) × FailsFirst (layout_checks file) (refusal.at, refusal.rule))
    ⊎ ((ss : List Statement) × (env : List Declaration) × (at : ℕ) × FailsAfter standard file ss env at refusal)
