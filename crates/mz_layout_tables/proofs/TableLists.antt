-- The tables as lists of their rows.
use Rattle.std.proofs.Common.{◌≡◌, ◌<◌, ℕ, List, length, map, slice_get, Some, arith}
use Rattle.std.specs.List.{range_with_len}
use Rattle.std.proofs.lemmas.List.FromFn.{length-map-range_with_len, get_or-map-range_with_len}
use Rattle.mz_logic_theory.specs.Words.{term_at}
use Rattle.mz_layout_tables.specs.Tables.{mods_of, tables_of, term_words, term_row, params_of, param_count, word_at, sort_count, term_count}
use Rattle.mz_logic_theory.proofs.Offered.{slice_get-rows}

pub length-sorts : (file : List ℕ) → length (tables_of file).sorts ≡ sort_count file
length-sorts file = length-map-range_with_len (mods_of file) 0 (sort_count file)

pub length-term_words : (file : List ℕ) → length (term_words file) ≡ term_count file
length-term_words file = length-map-range_with_len (λ t. (term_row file t).words) 0 (term_count file)

pub term_at-words : (file : List ℕ) (t : ℕ) → t < length (term_words file) → term_at (term_words file) t ≡ (term_row file t).words
term_at-words file t below =
    get_or-map-range_with_len (λ t. (term_row file t).words) 0 (term_count file) t t _ (omega (arith, length-term_words file)) (omega arith)

pub length-params : (file : List ℕ) (at : ℕ) → length (params_of file at) ≡ param_count file at
length-params file at = length-map-range_with_len (word_at file at) 0 (param_count file at)

pub slice_get-params : (file : List ℕ) (at i : ℕ) → i < param_count file at → slice_get (params_of file at) i ≡ Some (word_at file at i)
slice_get-params file at i below = slice_get-rows (word_at file at) (param_count file at) i below

pub slice_get-sorts : (file : List ℕ) (s : ℕ) → s < sort_count file → slice_get (tables_of file).sorts s ≡ Some (mods_of file s)
slice_get-sorts file s below = slice_get-rows (mods_of file) (sort_count file) s below

pub slice_get-terms : (file : List ℕ) (t : ℕ) → t < term_count file → slice_get (tables_of file).terms t ≡ Some (term_row file t)
slice_get-terms file t below = slice_get-rows (term_row file) (term_count file) t below

pub ruleset row_facts = (length-sorts, length-term_words, term_at-words, length-params, slice_get-params, slice_get-sorts)
