-- A statement that a checker of the binary reported.
use Rattle.std.specs.Prelude.{◌≡◌, ◌≤◌, ◌+◌, ℕ, List, [], length, drop}
use Rattle.mz_logic_theory.specs.Declaration.{Declaration}
use Rattle.mz_logic_theory.specs.LegalLists.{Statement}
use Rattle.mz_layout_tables.specs.Tables.{list_at}
use Rattle.mz_binary_theory.specs.declared.statement.Statement.{Statement as Reported}
use Rattle.mz_binary_theory.specs.Chains.{IsGoodStatement, GoodTo}
use Rattle.mz_binary.specs.Progress.{Progress, HasPassed, Tells}
use Rattle.mz_binary.specs.Judging.{Passes}
use Rattle.mz_layout_tables.specs.Layout.{Layout}
use Rattle.mz_match.specs.declared.progress.Matching.{Matching}
use Rattle.mz_spec_proved_theory.specs.Match.{Leaves, publics, term_rows}
use Rattle.mz_binary_theory.specs.Standards.{Standard}

-- after these good statements, whose public terms have these rows, it is this one
pub record IsReported (standard : Standard) (bin rows : List ℕ) (told : Reported) (ss : List Statement) (env : List Declaration) (s : Statement) (next : ℕ) : Type 0 where
  pub before : GoodTo standard bin [] (list_at bin) ss env told.at
  pub good : IsGoodStatement standard bin env told.at s next
  pub tells : Tells told (length ss + 1) told.at env s
  pub rows_are : rows ≡ term_rows 0 ss

-- ---- how far the match has come

-- the statements before are good and declare env; their public ones agree with the first declarations, which are done
pub record IsMatched (p : Progress) (ds : List Declaration) (m : Matching) (ss : List Statement) (env : List Declaration) : Type 0 where
  pub layout : Layout p.file
  pub passed : HasPassed p ss env
  pub leaves : Leaves ds ss (drop m.done ds)
  pub within : m.done ≤ length ds
  pub done_is : m.done ≡ length (publics ss)
  pub passed_is : m.passed ≡ length ss
  pub rows_are : m.publics ≡ term_rows 0 ss

-- the binary's next statement is reported
pub record IsNextReported (file : List ℕ) (ds : List Declaration) (m : Matching) (told : Reported) : Type 0 where
  pub progress : Progress
  pub later : Progress
  pub before : List Statement
  pub env : List Declaration
  pub same_file : progress.file ≡ file
  pub matched : IsMatched progress ds m before env
  pub passes : Passes progress before env later told

-- of the checker after it, with one statement more
abbrev pub IsMatchedMore : List Declaration → Matching → Progress → Type 0
IsMatchedMore ds m p = (ss : List Statement) × (env : List Declaration) × IsMatched p ds m ss env
