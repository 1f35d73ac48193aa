-- The rows before a statement, as lists.
use Rattle.std.proofs.Common.{◌≡◌, ◌<◌, ◌≤◌, ◌^◌, ℕ, List, [], ◌∷◌, length, map, drop, slice_get, Some, None, refl, ap, arith}
use Rattle.std.specs.List.{range_with_len}
use Rattle.std.proofs.lemmas.List.{length-drop}
use Rattle.std.proofs.lemmas.Option.{slice_get_past}
use Rattle.std.proofs.lemmas.List.FromFn.{length-map-range_with_len, get_or-map-range_with_len}
use Rattle.mz_logic_theory.specs.Words.{term_at, signature_of, binders_of, signatures_of as signatures_by}
use Rattle.mz_logic_theory.specs.declared.word.Word.{Word}
use Rattle.mz_logic_theory.specs.Signature.{Signature}
use Rattle.mz_logic_theory.proofs.Offered.{length-binders, slice_get-rows}
use Rattle.mz_layout_tables.specs.Rows.{IsRow}
use Rattle.mz_layout_tables.specs.Tables.{term_row, term_count, thm_count, term_words}
use Rattle.mz_layout_tables.specs.declared.row.Row.{Row}
use Rattle.mz_layout_tables.specs.declared.row.Row.TheVariants.{Term, Thm}
use Rattle.mz_layout_tables.proofs.Offered.{length-term_words, term_at-words, length-first_sorts}
use Rattle.mz_machine_theory.specs.Spells.{SpelledTerm}
use Rattle.mz_machine_theory.specs.FileRows.{term_of_file, thm_of_file}
use Rattle.mz_machine_env.specs.Before.{Before, AreWithin, tables_of, signatures_of, words_before, sorts_before}
use Rattle.mz_machine_env.specs.OperandRows.{IsBefore}

pub length-words : (b : Before) → length (words_before b) ≡ b.rows.terms
length-words b = length-map-range_with_len (λ t. (term_row b.file t).words) 0 b.rows.terms

pub words-at : (b : Before) (t : ℕ) → t < length (words_before b) → term_at (words_before b) t ≡ (term_row b.file t).words
words-at b t below =
    get_or-map-range_with_len (λ t. (term_row b.file t).words) 0 b.rows.terms t t _ (omega (arith, length-words b)) (omega arith)

-- the same term of the file
pub words-in-file : (b : Before) (t : ℕ) → AreWithin b.file b.rows → t < length (words_before b) → t < length (term_words b.file)
words-in-file b t within below = let most : b.rows.terms ≤ term_count b.file = within.terms_within in omega (arith, length-words b, length-term_words b.file)

pub words-of-file : (b : Before) (t : ℕ) → AreWithin b.file b.rows → t < length (words_before b) → term_at (term_words b.file) t ≡ (term_row b.file t).words
words-of-file b t within below = term_at-words b.file t (words-in-file b t within below)

pub length-sorts-before : (b : Before) → AreWithin b.file b.rows → length (sorts_before b) ≡ b.rows.sorts
length-sorts-before b within = length-first_sorts b.file b.rows.sorts within.sorts_within

pub ruleset before_facts = (length-words, words-at, words-in-file, words-of-file, length-sorts-before)

-- ---- as the machine reads them

same-signatures : (file : List ℕ) (ts : List ℕ) → signatures_by (map (λ t. (term_row file t).words) ts) ≡ map (λ (r : SpelledTerm). r.signature) (map (term_of_file file) ts)
same-signatures file [] = refl
same-signatures file (t ∷ ts) = ap (λ (ds : List Signature). signature_of (term_row file t).words ∷ ds) (same-signatures file ts)

-- the words before say the signatures before
pub signatures-before : (b : Before) → signatures_by (words_before b) ≡ signatures_of b
signatures-before b = same-signatures b.file (range_with_len 0 b.rows.terms)

pub term-before : (b : Before) (t : ℕ) → t < b.rows.terms → slice_get (tables_of b).terms t ≡ Some (term_of_file b.file t)
term-before b t below = slice_get-rows (term_of_file b.file) b.rows.terms t below

pub no-term-before : (b : Before) (t : ℕ) → b.rows.terms ≤ t → slice_get (tables_of b).terms t ≡ None
no-term-before b t past = slice_get_past (tables_of b).terms t (omega (arith, length-map-range_with_len (term_of_file b.file) 0 b.rows.terms))

pub thm-before : (b : Before) (i : ℕ) → i < b.rows.thms → slice_get (tables_of b).thms i ≡ Some (thm_of_file b.file i)
thm-before b i below = slice_get-rows (thm_of_file b.file) b.rows.thms i below

pub no-thm-before : (b : Before) (i : ℕ) → b.rows.thms ≤ i → slice_get (tables_of b).thms i ≡ None
no-thm-before b i past = slice_get_past (tables_of b).thms i (omega (arith, length-map-range_with_len (thm_of_file b.file) 0 b.rows.thms))

pub drop_fits : (file : List ℕ) (at : ℕ) → length file < 2 ^ 32 → length (drop at file) < 2 ^ 32
drop_fits file at fits = omega (arith, length-drop at file)

-- ---- a row of the file, the next one too

pub row-in-file : (file : List ℕ) (t : ℕ) → t < term_count file → t < length (term_words file)
row-in-file file t below = omega (arith, below, length-term_words file)

pub row-of-file : (file : List ℕ) (t : ℕ) → t < term_count file → term_at (term_words file) t ≡ (term_row file t).words
row-of-file file t below = term_at-words file t (row-in-file file t below)

-- a row before a statement is one of the file
pub row-there : (b : Before) (row : Row) → AreWithin b.file b.rows → IsBefore b row → IsRow b.file row
row-there b (Term t) within below = let most : b.rows.terms ≤ term_count b.file = within.terms_within in omega (arith, most, below)
row-there b (Thm i) within below = let most : b.rows.thms ≤ thm_count b.file = within.thms_within in omega (arith, most, below)

pub drop-within : (file : List ℕ) (at : ℕ) → length (drop at file) ≤ length file
drop-within file at = omega (arith, length-drop at file)

pub ruleset own_facts = (row-in-file, row-of-file, drop-within)

-- as many binders as words
pub binders_many : (ws : List Word) → length (binders_of ws) ≡ length ws
binders_many ws = length-binders 0 [] ws
