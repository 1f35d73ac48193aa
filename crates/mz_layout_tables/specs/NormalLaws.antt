-- Laws of the normal layout: what was written is read.
use Rattle.std.specs.Prelude.{◌≡◌, ◌≤◌, ℕ, ◌+◌, ◌*◌, List, length, take, drop, [], ◌∷◌, slice_get, Option, Some, is_some}
use Rattle.mz_logic_theory.specs.declared.word.Word.{Word}
use Rattle.mz_logic_theory.specs.Words.{word_sort}
use Rattle.mz_layout_tables.specs.Tables.{TermRow, ThmRow, sort_count, term_count, thm_count, list_at, mods_of, term_row, thm_row}
use Rattle.mz_layout_tables.specs.Normal.{Row, Written, Parts, row_of_term, row_of_thm, rows, rows_place, list_place, file_length, file_of}
use Rattle.mz_layout_tables.specs.Standing.{Stands, Fit, AreListed, block_place}

-- the tables have as many rows as were written, and the list stands where the header says
pub record HasParts (file : List ℕ) (p : Parts) : Type 0 where
  pub len : length file ≡ file_length p
  pub sorts : sort_count file ≡ length p.sorts
  pub terms : term_count file ≡ length p.terms
  pub thms : thm_count file ≡ length p.thms
  pub list_at : list_at file ≡ list_place p

-- where the words of a term's row stand, and those of an assertion's
abbrev pub term_place : Parts → ℕ → ℕ
term_place p t = block_place (rows_place p) (rows p) t

abbrev pub thm_place : Parts → ℕ → ℕ
thm_place p i = block_place (rows_place p) (rows p) (length p.terms + i)

-- the row of a term that was written
abbrev pub written_term : List Word → Word → Option (List ℕ) → ℕ → TermRow
written_term params ret unify place = record {
  words = record { params = params; result = ret; has_body = is_some unify };
  sort = word_sort ret;
  words_at = place;
  stream_at = place + 8 * (length params + 1);
}

abbrev pub written_thm : List Word → ℕ → ThmRow
written_thm params place = record { params = params; words_at = place; stream_at = place + 8 * length params }

abbrev pub PartsAreCounted : Type 0
PartsAreCounted = (p : Parts) → Fit p → HasParts (file_of p) p

abbrev pub SortsAreRead : Type 0
SortsAreRead = (p : Parts) → Fit p → (s m : ℕ) → slice_get p.sorts s ≡ Some m → mods_of (file_of p) s ≡ record { 0 = m }

abbrev pub TermsAreRead : Type 0
TermsAreRead = (p : Parts) → Fit p → (t : ℕ) (params : List Word) (ret : Word) (unify : Option (List ℕ)) → slice_get p.terms t ≡ Some (row_of_term params ret unify) → term_row (file_of p) t ≡ written_term params ret unify (term_place p t)

abbrev pub ThmsAreRead : Type 0
ThmsAreRead = (p : Parts) → Fit p → (i : ℕ) (params : List Word) (unify : List ℕ) → slice_get p.thms i ≡ Some (row_of_thm params unify) → thm_row (file_of p) i ≡ written_thm params (thm_place p i)

-- the stream of a definition stands where its row says, and so does an assertion's
abbrev pub TermStreamsStand : Type 0
TermStreamsStand = (p : Parts) → Fit p → (t : ℕ) (params : List Word) (ret : Word) (unify : List ℕ) → slice_get p.terms t ≡ Some (row_of_term params ret (Some unify)) → Stands (file_of p) (term_row (file_of p) t).stream_at unify

abbrev pub ThmStreamsStand : Type 0
ThmStreamsStand = (p : Parts) → Fit p → (i : ℕ) (params : List Word) (unify : List ℕ) → slice_get p.thms i ≡ Some (row_of_thm params unify) → Stands (file_of p) (thm_row (file_of p) i).stream_at unify

-- what stands at a place is read there, whole
abbrev pub StandingIsRead : Type 0
StandingIsRead = (file : List ℕ) (at : ℕ) (bytes : List ℕ) → Stands file at bytes → take (length bytes) (drop at file) ≡ bytes

abbrev pub StatementsAreListed : Type 0
StatementsAreListed = (p : Parts) → Fit p → AreListed (file_of p) (list_at (file_of p)) p.statements

-- ---- how long a file is at most, row by row and statement by statement

abbrev pub rows_cost : List Row → ℕ
rows_cost [] = 0
rows_cost (r ∷ rs) = 15 + 8 * length r.words + length r.stream + rows_cost rs

abbrev pub statements_cost : List Written → ℕ
statements_cost [] = 0
statements_cost (s ∷ ss) = 5 + length s.body + statements_cost ss

abbrev pub LengthIsBounded : Type 0
LengthIsBounded = (p : Parts) → file_length p ≤ 48 + length p.sorts + rows_cost p.terms + rows_cost p.thms + statements_cost p.statements
