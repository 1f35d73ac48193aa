-- The header and the tables of a binary, as numbers at places of its file (the .mmb format, version 1).
use Rattle.std.specs.Prelude.{ℕ, ◌+◌, ◌*◌, ◌/◌, ◌%◌, ◌==◌, List, map}
use Rattle.std.specs.List.{range_with_len}
use Rattle.mz_logic_theory.specs.declared.binder.SortMods.{SortMods}
use Rattle.mz_logic_theory.specs.declared.word.Word.{Word}
use Rattle.mz_logic_theory.specs.Words.{TermWords}
use Rattle.mz_layout_tables.specs.Numbers.{byte_at, number_at}

-- ---- the header, of 40 bytes

abbrev pub sort_count : List ℕ → ℕ
sort_count file = byte_at file 5

abbrev pub term_count : List ℕ → ℕ
term_count file = number_at 4 file 8

abbrev pub thm_count : List ℕ → ℕ
thm_count file = number_at 4 file 12

-- where the table of terms, that of axioms and theorems and the list of statements begin
abbrev pub terms_at : List ℕ → ℕ
terms_at file = number_at 4 file 16

abbrev pub thms_at : List ℕ → ℕ
thms_at file = number_at 4 file 20

abbrev pub list_at : List ℕ → ℕ
list_at file = number_at 4 file 24

-- ---- sorts, a byte each after the header, whose low four bits are the modifiers

abbrev pub mods_of : List ℕ → ℕ → SortMods
mods_of file s = record { 0 = byte_at file (40 + s) % 16 }

-- ---- records of 8 bytes, one for each term and one for each axiom or theorem, by their places

abbrev pub term_record : List ℕ → ℕ → ℕ
term_record file t = terms_at file + 8 * t

abbrev pub thm_record : List ℕ → ℕ → ℕ
thm_record file i = thms_at file + 8 * i

-- how many parameters the record's row has, and where its words of 8 bytes begin
abbrev pub param_count : List ℕ → ℕ → ℕ
param_count file at = number_at 2 file at

abbrev pub words_at : List ℕ → ℕ → ℕ
words_at file at = number_at 4 file (at + 4)

abbrev pub word_at : List ℕ → ℕ → ℕ → Word
word_at file at i = record { 0 = number_at 8 file (words_at file at + 8 * i) }

-- the parameters' words
abbrev pub params_of : List ℕ → ℕ → List Word
params_of file at = map (word_at file at) (range_with_len 0 (param_count file at))

-- a term's row: its words, the last of them its result's; the sort that its record names; where its
-- words begin, and where its unify stream does, right after them
pub record TermRow : Type 0 where
  pub words : TermWords
  pub sort : ℕ
  pub words_at : ℕ
  pub stream_at : ℕ

-- the row whose record stands at a place; the record's third byte holds the sort, and 128 more for a definition
abbrev pub term_row_at : List ℕ → ℕ → TermRow
term_row_at file at = record {
  words = record { params = params_of file at; result = word_at file at (param_count file at); has_body = byte_at file (at + 2) / 128 == 1 };
  sort = byte_at file (at + 2) % 128;
  words_at = words_at file at;
  stream_at = words_at file at + 8 * (param_count file at + 1);
}

abbrev pub term_row : List ℕ → ℕ → TermRow
term_row file t = term_row_at file (term_record file t)

-- the row of an axiom or a theorem
pub record ThmRow : Type 0 where
  pub params : List Word
  pub words_at : ℕ
  pub stream_at : ℕ

abbrev pub thm_row_at : List ℕ → ℕ → ThmRow
thm_row_at file at = record {
  params = params_of file at;
  words_at = words_at file at;
  stream_at = words_at file at + 8 * param_count file at;
}

abbrev pub thm_row : List ℕ → ℕ → ThmRow
thm_row file i = thm_row_at file (thm_record file i)

-- ---- all of it

pub record Tables : Type 0 where
  pub sorts : List SortMods
  pub terms : List TermRow
  pub thms : List ThmRow
  pub list_at : ℕ

abbrev pub tables_of : List ℕ → Tables
tables_of file = record {
  sorts = map (mods_of file) (range_with_len 0 (sort_count file));
  terms = map (term_row file) (range_with_len 0 (term_count file));
  thms = map (thm_row file) (range_with_len 0 (thm_count file));
  list_at = list_at file;
}

-- the words of all terms
abbrev pub term_words : List ℕ → List TermWords
term_words file = map (λ t. (term_row file t).words) (range_with_len 0 (term_count file))
