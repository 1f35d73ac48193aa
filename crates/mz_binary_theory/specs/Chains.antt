-- Statements that follow one another in the list (the .mmb format, its list of statements).
use Rattle.std.specs.Prelude.{◌≡◌, ℕ, List, [], ◌∷◌, ◌++◌, Ok}
use Rattle.mz_base.specs.Checks.{AllHold}
use Rattle.mz_cmd.specs.declared.statement.StmtAt.TheVariants.{End}
use Rattle.mz_cmd.specs.StatementList.{statement_at}
use Rattle.mz_logic_theory.specs.Declaration.{Declaration}
use Rattle.mz_logic_theory.specs.LegalLists.{Statement}
use Rattle.mz_layout_tables.specs.Tables.{list_at}
use Rattle.mz_binary_theory.specs.Spelling.{IsSpelled}
use Rattle.mz_binary_theory.specs.Checking.{list_checks}
use Rattle.mz_binary_theory.specs.Standards.{Standard}

-- the statements lead from a place to another, and env grows by what each declares; Step says of each that it stands
-- at its place after what was declared, and where the next one does
abbrev pub Chain : (List Declaration → ℕ → Statement → ℕ → Type 0) → List Declaration → ℕ → List Statement → List Declaration → ℕ → Type 0
Chain Step env from [] env' to = (env' ≡ env) × (to ≡ from)
Chain Step env from (s ∷ ss) env' to = (next : ℕ) × Step env from s next × Chain Step (env ++ s.decl ∷ []) next ss env' to

-- ---- the statements of a file, whether they are good or not

abbrev pub SpelledTo : List ℕ → List Declaration → ℕ → List Statement → List Declaration → ℕ → Type 0
SpelledTo file = Chain (IsSpelled file)

abbrev pub IsListEnd : List ℕ → ℕ → Type 0
IsListEnd file at = statement_at file at ≡ Ok End

-- the one list that the tables spell: it begins where the header says, and ends at an END
pub record Statements (file : List ℕ) (ss : List Statement) : Type 0 where
  pub env : List Declaration
  pub to : ℕ
  pub spelled : SpelledTo file [] (list_at file) ss env to
  pub ends : IsListEnd file to

-- ---- good statements

-- the statement stands at a place after env, and nothing that is asked of the place fails
pub record IsGoodStatement (standard : Standard) (file : List ℕ) (env : List Declaration) (at : ℕ) (s : Statement) (next : ℕ) : Type 0 where
  pub spelled : IsSpelled file env at s next
  pub passes : AllHold (list_checks standard file env at)

abbrev pub GoodTo : Standard → List ℕ → List Declaration → ℕ → List Statement → List Declaration → ℕ → Type 0
GoodTo standard file = Chain (IsGoodStatement standard file)

-- the list ends there after env, and no row is left
pub record EndsAt (standard : Standard) (file : List ℕ) (env : List Declaration) (at : ℕ) : Type 0 where
  pub ends : IsListEnd file at
  pub passes : AllHold (list_checks standard file env at)
