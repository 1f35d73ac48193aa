-- The ends of rows that their sizes yield.
use Rattle.std.proofs.Common.{ℕ, zero, suc, ◌≡◌, ◌<◌, ◌≤◌, ◌+◌, inl, inr, List, [], ◌∷◌, length, get_or, set, map, refl, sym, ap, ◌∙◌, subst, arith}
use Rattle.std.specs.Prelude.{◌⊎◌, ◌==◌, ◌^◌, true, false}
use Rattle.std.proofs.lemmas.Bool.{false≢true}
use Rattle.std.proofs.lemmas.Bool.Decides.{nat_tests}
use Rattle.std.proofs.lemmas.List.{get_or-set_same, get_or-set_other, length-set, length-map}
use Rattle.mz_sexpr.specs.declared.sexprs.Row.{Row}
use Rattle.mz_sexpr.specs.Rows.{Entry, entry, sized, all_ends, Steps, EndsAt, EndFrom, IsLinked}

pub sized_length : (k : ℕ) (rows : List Row) → length (sized k rows) ≡ length rows
sized_length k [] = refl
sized_length k (r ∷ rs) = ap suc (sized_length (suc k) rs)

sized_from : (k : ℕ) (rows : List Row) (n : ℕ) (r : Row) → n < length rows → get_or (sized k rows) n 0 ≡ k + n + (get_or rows n r).size
sized_from k [] n r h = absurd (omega (arith, h))
sized_from k (x ∷ xs) zero r h = omega arith
sized_from k (x ∷ xs) (suc n) r h = (let e = sized_from (suc k) xs n r (omega (arith, h)) in omega (arith, e))

pub sized_at : (rows : List Row) (n : ℕ) (r : Row) → n < length rows → get_or (sized 0 rows) n 0 ≡ n + (get_or rows n r).size
sized_at rows n r h = (let e = sized_from 0 rows n r h in omega (arith, e))

-- a row in whose place one of another size is put
pub sized_set : (rows : List Row) (n e : ℕ) (r : Row) → n < length rows → n + r.size ≡ e → get_or (sized 0 (set rows n r)) n 0 ≡ e
sized_set rows n e r h is =
    sized_at (set rows n r) n r (subst (λ k. n < k) (sym (length-set rows n r)) h)
    ∙ ap (λ (x : Row). n + x.size) (get_or-set_same rows n r r h) ∙ is

pub sized_set_other : (rows : List Row) (n m : ℕ) (r : Row) → m < length rows → n < m → get_or (sized 0 (set rows n r)) m 0 ≡ get_or (sized 0 rows) m 0
sized_set_other rows n m r h before =
    sized_at (set rows n r) m r (subst (λ k. m < k) (sym (length-set rows n r)) h)
    ∙ ap (λ (x : Row). m + x.size) (get_or-set_other rows n m r r (λ q. omega (arith, q, before)))
    ∙ sym (sized_at rows m r h)

there_or_behind : (m n : ℕ) → n ≤ m → (n ≡ m) ⊎ (n < m)
there_or_behind m n h = grind arith

-- one size more, found from the last row back
pub sized_one_more : (es : List Entry) (rows : List Row) (n : ℕ) (r : Row) → length es ≡ length rows → n < length rows → EndFrom es (sized 0 rows) (n + 1) → EndsAt es n (n + r.size)
    → EndFrom es (sized 0 (set rows n r)) n
sized_one_more es rows n r many here known new = λ m h k. go m k (there_or_behind m n h)
  where
    go : (m : ℕ) → m < length es → (n ≡ m) ⊎ (n < m) → EndsAt es m (get_or (sized 0 (set rows n r)) m 0)
    go m k (inl there) = subst (λ j. EndsAt es j (get_or (sized 0 (set rows n r)) j 0)) there (subst (EndsAt es n) (sym (sized_set rows n (n + r.size) r here refl)) new)
    go m k (inr behind) = subst (EndsAt es m) (sym (sized_set_other rows n m r (subst (λ j. m < j) many k) behind)) (known m (omega (arith, behind)) k)

pub entries_set : (text : List ℕ) (rows : List Row) (n : ℕ) (r q : Row) → n < length rows → entry text r ≡ entry text (get_or rows n q) → map (entry text) (set rows n r) ≡ map (entry text) rows
entries_set text [] n r q h is = absurd (omega (arith, h))
entries_set text (x ∷ xs) zero r q h is = ap (λ e. e ∷ map (entry text) xs) is
entries_set text (x ∷ xs) (suc n) r q h is = ap (λ es. entry text x ∷ es) (entries_set text xs n r q (omega (arith, h)) is)

pub ends_apart : (rows : List Row) (ends : List ℕ) → length ends ≡ length rows → length (all_ends rows ends) ≡ length rows
ends_apart rows [] h = sized_length 0 rows
ends_apart rows (e ∷ es) h = h

pub same_ends : (rows : List Row) (ends : List ℕ) (n : ℕ) → length ends ≡ length rows → n < length rows → get_or (all_ends rows ends) n 0 ≡ get_or ends n 0
same_ends rows [] n h k = absurd (omega (arith, h, k))
same_ends rows (e ∷ es) n h k = refl

not_none : (n : ℕ) → (suc n == 0) ≡ false
not_none n = grind (arith, nat_tests)

pub told_by_sizes : (rows : List Row) (ends : List ℕ) → (length ends == 0) ≡ true → all_ends rows ends ≡ sized 0 rows
told_by_sizes rows [] h = refl
told_by_sizes rows (e ∷ es) h = absurd (false≢true (sym (not_none (length es)) ∙ h))

-- the same ends of the same entries, as are kept
pub kept_ends : (text : List ℕ) (rows : List Row) (ends : List ℕ) → length ends ≡ length rows → EndFrom (map (entry text) rows) ends 0 → EndFrom (map (entry text) rows) (all_ends rows ends) 0
kept_ends text rows ends many known = λ m h k.
    subst (EndsAt (map (entry text) rows) m) (sym (same_ends rows ends m many (subst (λ n. m < n) (length-map rows (entry text)) k))) (known m h k)

pub are_linked : (text : List ℕ) (rows new : List Row) (ends : List ℕ) → Steps 0 (map (entry text) rows) → length rows < 2 ^ 32 → length new ≡ length rows
    → map (entry text) new ≡ map (entry text) rows → length ends ≡ length new → EndFrom (map (entry text) new) ends 0 → IsLinked (map (entry text) new) ends
are_linked text rows new ends steps short as_many same many known = record {
  steps = subst (Steps 0) (sym same) steps;
  many = many ∙ sym (length-map new (entry text));
  ended = known;
  short = subst (λ n. n < 2 ^ 32) (sym (length-map new (entry text) ∙ as_many)) short;
}
