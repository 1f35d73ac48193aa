-- A row of a file, of the table of terms or of that of axioms and theorems (the .mmb format), and what both say alike.
use Rattle.std.specs.Prelude.{◌<◌, ℕ, List}
use Rattle.mz_logic_theory.specs.declared.word.Word.{Word}
use Rattle.mz_layout_tables.specs.Tables.{term_count, thm_count, term_row, thm_row}
use Rattle.mz_layout_tables.specs.declared.row.Row.{Row}
use Rattle.mz_layout_tables.specs.declared.row.Row.TheVariants.{Term, Thm}

-- the table has the row
abbrev pub IsRow : List ℕ → Row → Type 0
IsRow file (Term t) = t < term_count file
IsRow file (Thm i) = i < thm_count file

-- the words of its parameters, and where the first of them stands
abbrev pub params_of : List ℕ → Row → List Word
params_of file (Term t) = (term_row file t).words.params
params_of file (Thm i) = (thm_row file i).params

abbrev pub words_at_of : List ℕ → Row → ℕ
words_at_of file (Term t) = (term_row file t).words_at
words_at_of file (Thm i) = (thm_row file i).words_at
