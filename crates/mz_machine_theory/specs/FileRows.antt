-- The rows of a file, as they spell terms and assertions, and the rows before a statement (the .mmb format, its tables
-- of terms and theorems).
use Rattle.std.specs.Prelude.{ℕ, if◌then◌else◌, List, [], drop, map, length, Option, Some, None}
use Rattle.std.specs.List.{range_with_len}
use Rattle.mz_logic_theory.specs.Declaration.{Declaration, sorts, terms, assertions}
use Rattle.mz_logic_theory.specs.Words.{binders_of, signature_of}
use Rattle.mz_logic_theory.specs.declared.binder.SortMods.{SortMods}
use Rattle.mz_layout_tables.specs.Tables.{TermRow, term_row, thm_row}
use Rattle.mz_machine_theory.specs.Spells.{SpelledTerm, SpelledThm}
use Rattle.mz_machine_theory.specs.MachineState.{RowsBefore}

-- a definition's stream follows its words; a plain term has none
abbrev pub stream_of : List ℕ → TermRow → Option (List ℕ)
stream_of file row = if row.words.has_body then Some (drop row.stream_at file) else None

-- the t-th term's row, and the i-th assertion's
abbrev pub term_of_file : List ℕ → ℕ → SpelledTerm
term_of_file file t = record { signature = signature_of (term_row file t).words; stream = stream_of file (term_row file t) }

abbrev pub thm_of_file : List ℕ → ℕ → SpelledThm
thm_of_file file i = record { params = binders_of (thm_row file i).params; stream = drop (thm_row file i).stream_at file }

-- what statements have taken of the tables: these sorts, and so many rows of terms and of assertions
pub record Taken : Type 0 where
  pub sorts : List SortMods
  pub terms : ℕ
  pub thms : ℕ

abbrev pub nothing_taken : Taken
nothing_taken = record { sorts = []; terms = 0; thms = 0 }

-- what the statements that declare env have taken
abbrev pub taken_by : List Declaration → Taken
taken_by env = record { sorts = sorts env; terms = length (terms env); thms = length (assertions env) }

-- the rows that are taken, as the machine reads them
abbrev pub rows_taken : List ℕ → Taken → RowsBefore
rows_taken file taken = record {
  sorts = taken.sorts;
  terms = map (term_of_file file) (range_with_len 0 taken.terms);
  thms = map (thm_of_file file) (range_with_len 0 taken.thms);
}
