-- Which theorems have what `trace` asks for (the .mmb format, its list of statements).
use Rattle.std.specs.Prelude.{◌≡◌, ℕ, false, List, [], length}
use Rattle.mz_logic_theory.specs.Declaration.{Assertion, Declaration, assertion_decl, sorts, terms, assertions}
use Rattle.mz_logic_theory.specs.LegalLists.{Statement}
use Rattle.mz_layout_tables.specs.Tables.{list_at}
use Rattle.mz_layout_tables.specs.declared.rows_so_far.Rows.{Rows}
use Rattle.mz_binary_theory.specs.Chains.{IsGoodStatement, GoodTo}
use Rattle.mz_binary_theory.specs.Standards.{strict_standard}
use Rattle.mz_binary_theory.specs.declared.statement.Statement.{Statement as Sized}
use Rattle.mz_binary.specs.Progress.{Tells}
use Rattle.mz_trace.specs.Runs.{IsTheoremAt}

-- so many rows of each table are taken by declarations
abbrev pub rows_of : List Declaration → Rows
rows_of env = record { sorts = length (sorts env); terms = length (terms env); thms = length (assertions env) }

-- A theorem that is good without gaps, behind good statements, has what `trace` asks for, as the checker reports it:
-- its statement stands at its place, and its body runs over the rows of what was declared before it.
abbrev pub GoodTheoremsStand : Type 0
GoodTheoremsStand = (file : List ℕ) (done : List Statement) (env : List Declaration) (at : ℕ) (s : Statement) (next : ℕ)
    → GoodTo strict_standard file [] (list_at file) done env at → IsGoodStatement strict_standard file env at s next
    → (a : Assertion) → s.decl ≡ assertion_decl a → a.is_axiom ≡ false
    → (told : Sized) (n : ℕ) → Tells told n at env s → IsTheoremAt file told.at told.row (rows_of env)
