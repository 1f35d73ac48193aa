-- The words that are written for a row pass what is asked of them.
use Rattle.std.specs.Prelude.{◌≡◌, ℕ, List}
use Rattle.mz_base.specs.Checks.{AllHold}
use Rattle.mz_logic_theory.specs.Modifiers.{MayBeResultSort}
use Rattle.mz_logic_theory.specs.WordsWritten.{words_of, result_word, CanBeWords}
use Rattle.mz_logic_theory.specs.declared.binder.Binder.{Binder}
use Rattle.mz_logic_theory.specs.declared.binder.ResultType.{ResultType}
use Rattle.mz_logic_theory.specs.declared.binder.SortMods.{SortMods}
use Rattle.mz_layout_tables.specs.Tables.{TermRow}
use Rattle.mz_layout_tables.specs.RowWords.{param_checks, word_checks}

-- the row has the words of these parameters and of this result, and names its sort
pub record IsWrittenRow (params : List Binder) (r : ResultType) (row : TermRow) : Type 0 where
  pub params_are : row.words.params ≡ words_of params
  pub result_is : row.words.result ≡ result_word params r
  pub sort_is : row.sort ≡ r.sort

abbrev pub WrittenParamsPass : Type 0
WrittenParamsPass = (ss : List SortMods) (params : List Binder) (words_at : ℕ) → CanBeWords ss params → AllHold (param_checks ss words_at (words_of params))

abbrev pub WrittenRowsPass : Type 0
WrittenRowsPass = (ss : List SortMods) (params : List Binder) (r : ResultType) (row : TermRow) → CanBeWords ss params → MayBeResultSort ss r.sort → IsWrittenRow params r row
    → AllHold (word_checks ss row)
