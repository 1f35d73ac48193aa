-- The first ids, and how many words a row has from where they begin.
use Rattle.std.proofs.Common.{◌≡◌, ◌≤◌, ◌∙◌, ℕ, List, [], ◌∷◌, ◌++◌, length, take, sym, ap, inl, inr, arith}
use Rattle.std.proofs.lemmas.Bool.{cases_lt}
use Rattle.std.proofs.lemmas.List.{take-append-le, take-take, take_all}
use Rattle.std.proofs.lemmas.List.FromFn.{length-map-range_with_len, take-map-range_with_len}
use Rattle.mz_layout_tables.specs.Tables.{thm_row, term_row}
use Rattle.mz_store.specs.declared.item.Id.{Id}
use Rattle.mz_store.specs.declared.item.Item.{Item as Kept}
use Rattle.mz_machine_theory.specs.MachineState.{Kind, is_axiom, is_theorem, is_definition}
use Rattle.mz_machine_env.specs.OwnRow.{id_at, first_ids, first_items, own_words, words_from}

many-items : (n : ℕ) → length (first_items n) ≡ n
many-items n = length-map-range_with_len _ 0 n

many-ids : (n : ℕ) → length (first_ids n) ≡ n
many-ids n = length-map-range_with_len id_at 0 n

-- fewer of the first ones
pub fewer-items : (xs : List Kept) (n k : ℕ) → take n xs ≡ first_items n → k ≤ n → take k xs ≡ first_items k
fewer-items xs n k is le = sym (take-take k n xs le) ∙ ap (take k) is ∙ take-map-range_with_len _ 0 n k le

pub fewer-ids : (n k : ℕ) → k ≤ n → take k (first_ids n) ≡ first_ids k
fewer-ids n k le = take-map-range_with_len id_at 0 n k le

-- one more item behind them
pub still-first : (xs : List Kept) (x : Kept) (n : ℕ) → take n xs ≡ first_items n → take n (xs ++ x ∷ []) ≡ first_items n
still-first xs x n is = take-append-le n xs (x ∷ []) long ∙ is
  where
    long : n ≤ length xs
    long = elim (cases_lt (length xs) n) [
      | inl short ↦ absurd (let e : length xs ≡ n = sym (ap length (take_all n xs (omega arith))) ∙ ap length is ∙ many-items n in omega arith)
      | inr past ↦ past
    ]

pub all-first : (xs : List Kept) (n : ℕ) → xs ≡ first_items n → take n xs ≡ first_items n
all-first xs n is = take_all n xs (let e : length xs ≡ n = ap length is ∙ many-items n in omega arith) ∙ is

pub ids-are : (xs : List Id) (n : ℕ) → xs ≡ first_ids n → xs ≡ first_ids (length xs)
ids-are xs n is = is ∙ ap first_ids (sym (ap length is ∙ many-ids n))

pub ids-many : (xs : List Id) (n : ℕ) → xs ≡ first_ids n → length xs ≡ n
ids-many xs n is = ap length is ∙ many-ids n

-- ---- a row's own words

abbrev pub own_at : List ℕ → ℕ → Kind → ℕ
own_at file row is_axiom = (thm_row file row).words_at
own_at file row is_theorem = (thm_row file row).words_at
own_at file row is_definition = (term_row file row).words_at

pub own-from : (file : List ℕ) (row : ℕ) (kind : Kind) → own_words file row kind ≡ words_from file (own_at file row kind) (length (own_words file row kind))
own-from file row is_axiom = ap (words_from file (thm_row file row).words_at) (sym (length-map-range_with_len _ 0 _))
own-from file row is_theorem = ap (words_from file (thm_row file row).words_at) (sym (length-map-range_with_len _ 0 _))
own-from file row is_definition = ap (words_from file (term_row file row).words_at) (sym (length-map-range_with_len _ 0 _))

pub own-from-at : (file : List ℕ) (row : ℕ) (kind : Kind) (at : ℕ) → at ≡ own_at file row kind → own_words file row kind ≡ words_from file at (length (own_words file row kind))
own-from-at file row kind at is = own-from file row kind ∙ ap (λ a. words_from file a (length (own_words file row kind))) (sym is)
