-- What is asked of the words of a row: each parameter's in order, and a term's result's (the .mmb format, its records of
-- terms and of theorems).
use Rattle.std.specs.Prelude.{◌≡◌, ◌<◌, ◌≤◌, ◌+◌, ◌*◌, ◌^◌, ℕ, false, List, length, take, slice_get, Some, MatchBool}
use Rattle.std.specs.List.{filter, range_with_len}
use Rattle.mz_base.specs.Checks.{Checks, demand, ◌>>◌, each_in_order}
use Rattle.mz_cmd.specs.declared.rule.K.{K}
use Rattle.mz_cmd.specs.declared.rule.K.TheVariants as rules
use Rattle.mz_logic_theory.specs.Modifiers.{MayBeResultSort, MayBeBoundSort}
use Rattle.mz_logic_theory.specs.Laws.{SortsThere}
use Rattle.mz_logic_theory.specs.Legality.{AreParams}
use Rattle.mz_logic_theory.specs.Words.{word_bound, word_sort, word_deps, BitsRight, binders_of}
use Rattle.mz_logic_theory.specs.declared.binder.SortMods.{SortMods}
use Rattle.mz_logic_theory.specs.declared.word.Word.{Word}
use Rattle.mz_layout_tables.specs.Tables.{TermRow, tables_of}

-- the first n sorts of the file
abbrev pub first_sorts : List ℕ → ℕ → List SortMods
first_sorts file n = take n (tables_of file).sorts

-- how many of the words say bound variables
abbrev pub bound_count : List Word → ℕ
bound_count ws = length (filter word_bound ws)

-- a word may say the parameter after k bound ones: its sort is declared; a bound one's isn't strict, and the word has
-- bit k alone, which is at most bit 54; a regular one has no bits but those of the bound ones before it
abbrev pub IsParamWord : List SortMods → ℕ → Word → Type 0
IsParamWord ss k w = (word_sort w < length ss) × MatchBool (word_bound w)
    (MayBeBoundSort ss (word_sort w) × (k ≤ 54) × (word_deps w ≡ 2 ^ k))
    (word_deps w < 2 ^ k)

-- the i-th of the words may say the parameter after those before it
abbrev pub IsParamAt : List SortMods → List Word → ℕ → Type 0
IsParamAt ss ws i = (w : Word) × (slice_get ws i ≡ Some w) × IsParamWord ss (bound_count (take i ws)) w

-- the parameters' words, of which the first stands at a place, in order; `ss` are the sorts that are declared
abbrev pub param_check : List SortMods → ℕ → List Word → ℕ → Checks (ℕ × K)
param_check ss words_at ws i = demand (words_at + 8 * i, rules.Binder) (IsParamAt ss ws i)

abbrev pub param_checks : List SortMods → ℕ → List Word → Checks (ℕ × K)
param_checks ss words_at ws = each_in_order (param_check ss words_at ws) (range_with_len 0 (length ws))

-- the result's word isn't bound, has the sort that the record names, which is declared and not pure, and no bits but
-- those of bound parameters
pub record IsResultWord (ss : List SortMods) (row : TermRow) : Type 0 where
  pub is_regular : word_bound row.words.result ≡ false
  pub named : word_sort row.words.result ≡ row.sort
  pub may_be : MayBeResultSort ss row.sort
  pub bits : word_deps row.words.result < 2 ^ bound_count row.words.params

-- all words of a term's row: the result's stands after its parameters'
abbrev pub word_checks : List SortMods → TermRow → Checks (ℕ × K)
word_checks ss row =
    param_checks ss row.words_at row.words.params
    >> demand (row.words_at + 8 * length row.words.params, rules.Result) (IsResultWord ss row)

-- ---- what follows

-- each of the words may say its parameter
abbrev pub AreParamWords : List SortMods → List Word → Type 0
AreParamWords ss ws = (i : ℕ) → i < length ws → IsParamAt ss ws i

-- Then the binders that they say are right as parameters, and no bit is left out in reading them: the k-th bound word
-- has bit k alone, and a regular one only bits of bound ones before it. At most 55 are bound.
abbrev pub RightWordsSayParams : Type 0
RightWordsSayParams = (ss : List SortMods) (ws : List Word) → AreParamWords ss ws
    → SortsThere ss (binders_of ws) × AreParams ss (binders_of ws) × BitsRight ws × (bound_count ws ≤ 55)
