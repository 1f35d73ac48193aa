-- The rows before a statement (the .mmb format, its list of statements).
use Rattle.std.specs.Prelude.{◌≤◌, ℕ, List, map}
use Rattle.std.specs.List.{range_with_len}
use Rattle.mz_base.specs.Checks.{AllHold}
use Rattle.mz_logic_theory.specs.Signature.{Signature}
use Rattle.mz_logic_theory.specs.Words.{TermWords}
use Rattle.mz_logic_theory.specs.declared.binder.SortMods.{SortMods}
use Rattle.mz_layout_tables.specs.Tables.{sort_count, term_count, thm_count, term_row, thm_row}
use Rattle.mz_machine_theory.specs.MachineState.{RowsBefore, signatures_in}
use Rattle.mz_layout_tables.specs.RowWords.{first_sorts, param_checks, word_checks}
use Rattle.mz_machine_theory.specs.FileRows.{Taken, rows_taken}
use Rattle.mz_layout_tables.specs.declared.rows_so_far.Rows.{Rows}

-- a file, and how many rows of each of its tables stand before a statement
pub record Before : Type 0 where
  pub file : List ℕ
  pub rows : Rows

-- there are so many
pub record AreWithin (file : List ℕ) (rows : Rows) : Type 0 where
  pub sorts_within : rows.sorts ≤ sort_count file
  pub terms_within : rows.terms ≤ term_count file
  pub thms_within : rows.thms ≤ thm_count file

abbrev pub taken_before : List ℕ → Rows → Taken
taken_before file rows = record { sorts = first_sorts file rows.sorts; terms = rows.terms; thms = rows.thms }

-- these rows, as the machine reads them
abbrev pub tables_before : List ℕ → Rows → RowsBefore
tables_before file rows = rows_taken file (taken_before file rows)

abbrev pub tables_of : Before → RowsBefore
tables_of b = tables_before b.file b.rows

abbrev pub signatures_of : Before → List Signature
signatures_of b = signatures_in (tables_of b)

-- the sorts among them
abbrev pub sorts_before : Before → List SortMods
sorts_before b = first_sorts b.file b.rows.sorts

-- the words of the terms among them
abbrev pub words_before : Before → List TermWords
words_before b = map (λ t. (term_row b.file t).words) (range_with_len 0 b.rows.terms)

-- the words of a term's row are right where the first n sorts are declared
abbrev pub HasRightWords : List ℕ → ℕ → ℕ → Type 0
HasRightWords file n t = AllHold (word_checks (first_sorts file n) (term_row file t))

-- and those of an axiom's or theorem's
abbrev pub HasRightParams : List ℕ → ℕ → ℕ → Type 0
HasRightParams file n i = AllHold (param_checks (first_sorts file n) (thm_row file i).words_at (thm_row file i).params)
