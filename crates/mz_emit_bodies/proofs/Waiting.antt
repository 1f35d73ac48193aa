-- What waits while a body is written: the parts of the lets that were met, each with what it costs, that aren't in the heap.
use Rattle.std.specs.Prelude.{ℕ, ◌≡◌, ◌<◌, ◌≤◌, ◌+◌, ◌==◌, false, List, [], ◌∷◌, ◌++◌, length, Option, Some, None}
use Rattle.std.proofs.Common.{suc, refl, sym, ap, ◌∙◌, arith, inl, inr, eq-eqb}
use Rattle.std.proofs.lemmas.Bool.{cases_Bool, eqb-true}
use Rattle.mz_emit_theory.specs.BodyWriting.{Kept, first_part, is_same, place_in}
use Rattle.mz_emit_bodies.proofs.Heaps.{none_or_some, place_new, place_old}

-- the m-th let's part is in the heap
abbrev pub IsSaved : List Kept → ℕ → Type 0
IsSaved heap m = (p : ℕ) × (place_in (first_part m) heap ≡ Some p)

-- ---- one item more

pub saved_now : (heap : List Kept) (m : ℕ) → IsSaved (first_part m ∷ heap) m
saved_now heap m = (length heap, place_new (first_part m) (first_part m) heap (eq-eqb m m refl))

pub saved_still : (x : Kept) (heap : List Kept) (m : ℕ) → IsSaved heap m → IsSaved (x ∷ heap) m
saved_still x heap m saved = elim (cases_Bool (is_same (first_part m) x)) [
  | inl same ↦ (length heap, place_new (first_part m) x heap same)
  | inr differs ↦ (saved.0, place_old (first_part m) x heap differs ∙ saved.1)
]

pub saved_before : (heap : List Kept) (m k : ℕ) → is_same (first_part k) (first_part m) ≡ false → IsSaved (first_part m ∷ heap) k → IsSaved heap k
saved_before heap m k differs saved = (saved.0, sym (place_old (first_part k) (first_part m) heap differs) ∙ saved.1)

-- ---- what waits

abbrev pub waits_one : Option ℕ → ℕ → ℕ
waits_one None c = c
waits_one (Some p) c = 0

-- the parts of the lets from the n-th on, which cost so much, that aren't in the heap
abbrev pub waiting : List Kept → ℕ → List ℕ → ℕ
waiting heap n [] = 0
waiting heap n (c ∷ cs) = waits_one (place_in (first_part n) heap) c + waiting heap (suc n) cs

pub waiting_same : (heap heap' : List Kept) → ((m : ℕ) → place_in (first_part m) heap' ≡ place_in (first_part m) heap) → (n : ℕ) (cs : List ℕ) → waiting heap' n cs ≡ waiting heap n cs
waiting_same heap heap' same n [] = refl
waiting_same heap heap' same n (c ∷ cs) = (let one = ap (λ (o : Option ℕ). waits_one o c) (same n) in let r = waiting_same heap heap' same (suc n) cs in omega (arith, one, r))

waits_nothing : (o : Option ℕ) → waits_one o 0 ≡ 0
waits_nothing None = refl
waits_nothing (Some p) = refl

waits_most : (o : Option ℕ) (c : ℕ) → waits_one o c ≤ c
waits_most None c = omega arith
waits_most (Some p) c = omega arith

-- one let more
pub waiting_last : (heap : List Kept) (n : ℕ) (cs : List ℕ) (c : ℕ) → waiting heap n (cs ++ c ∷ []) ≤ waiting heap n cs + c
waiting_last heap n [] c = (let m = waits_most (place_in (first_part n) heap) c in omega (arith, m))
waiting_last heap n (d ∷ cs) c = (let r = waiting_last heap (suc n) cs c in omega (arith, r))

-- lets behind these
pub waiting_join : (heap : List Kept) (n : ℕ) (cs ds : List ℕ) → waiting heap n (cs ++ ds) ≡ waiting heap n cs + waiting heap (n + length cs) ds
waiting_join heap n [] ds = (let same = ap (λ (k : ℕ). waiting heap k ds) from in omega (arith, same))
  where
    from : n ≡ n + 0
    from = omega arith
waiting_join heap n (c ∷ cs) ds = (let r = waiting_join heap (suc n) cs ds in let same = ap (λ (k : ℕ). waiting heap k ds) shift in omega (arith, r, same))
  where
    shift : suc n + length cs ≡ n + length (c ∷ cs)
    shift = omega arith

-- where what was in the heap still is, no more waits
waits_less : (o o' : Option ℕ) (c : ℕ) → ((p : ℕ) → o ≡ Some p → (q : ℕ) × (o' ≡ Some q)) → waits_one o' c ≤ waits_one o c
waits_less None o' c still = waits_most o' c
waits_less (Some p) o' c still = (let s = still p refl in let e = ap (λ (z : Option ℕ). waits_one z c) s.1 in omega (arith, e))

pub waiting_less : (heap heap' : List Kept) → ((m : ℕ) → IsSaved heap m → IsSaved heap' m) → (n : ℕ) (cs : List ℕ) → waiting heap' n cs ≤ waiting heap n cs
waiting_less heap heap' still n [] = omega arith
waiting_less heap heap' still n (c ∷ cs) =
    let one = waits_less (place_in (first_part n) heap) (place_in (first_part n) heap') c (λ p at. still n (p, at)) in
    let r = waiting_less heap heap' still (suc n) cs in
    omega (arith, one, r)

-- ---- one let

-- what one let's part costs, while it isn't in the heap
pub waiting_one : (heap : List Kept) (n m c : ℕ) (base since : List ℕ) → m ≡ n + length base → place_in (first_part m) heap ≡ None
    → waiting heap n ((base ++ c ∷ []) ++ since) ≡ waiting heap n ((base ++ 0 ∷ []) ++ since) + c
waiting_one heap n m c [] since m-is absent =
    let here : place_in (first_part n) heap ≡ None = ap (λ (k : ℕ). place_in (first_part k) heap) (omega (arith, m-is)) ∙ absent in
    let a : waits_one (place_in (first_part n) heap) c ≡ c = ap (λ (o : Option ℕ). waits_one o c) here in
    let b : waits_one (place_in (first_part n) heap) 0 ≡ 0 = ap (λ (o : Option ℕ). waits_one o 0) here in
    omega (arith, a, b)
waiting_one heap n m c (d ∷ base) since m-is absent = (let r = waiting_one heap (suc n) m c base since (omega (arith, m-is)) absent in omega (arith, r))

-- that of another let isn't touched
waits_apart : (heap : List Kept) (n m c : ℕ) → (n ≡ m → ⊥) → waits_one (place_in (first_part n) (first_part m ∷ heap)) c ≡ waits_one (place_in (first_part n) heap) c
waits_apart heap n m c other = elim (cases_Bool (n == m)) [
  | inl same ↦ absurd (other (eqb-true n m same))
  | inr differs ↦ ap (λ (o : Option ℕ). waits_one o c) (place_old (first_part n) (first_part m) heap differs)
]

waiting_after : (heap : List Kept) (n m : ℕ) (cs : List ℕ) → m < n → waiting (first_part m ∷ heap) n cs ≡ waiting heap n cs
waiting_after heap n m [] lt = refl
waiting_after heap n m (c ∷ cs) lt =
    let one = waits_apart heap n m c (λ is. omega (arith, is, lt)) in
    let r = waiting_after heap (suc n) m cs (omega (arith, lt)) in
    omega (arith, one, r)

-- once it is there, it costs nothing
pub waiting_none : (heap : List Kept) (n m c : ℕ) (base rest : List ℕ) → m ≡ n + length base → waiting (first_part m ∷ heap) n ((base ++ c ∷ []) ++ rest) ≡ waiting heap n ((base ++ 0 ∷ []) ++ rest)
waiting_none heap n m c [] rest m-is =
    let here : place_in (first_part n) (first_part m ∷ heap) ≡ Some (length heap) = place_new (first_part n) (first_part m) heap (eq-eqb n m (omega (arith, m-is))) in
    let a : waits_one (place_in (first_part n) (first_part m ∷ heap)) c ≡ 0 = ap (λ (o : Option ℕ). waits_one o c) here in
    let b = waits_nothing (place_in (first_part n) heap) in
    let r = waiting_after heap (suc n) m rest (omega (arith, m-is)) in
    omega (arith, a, b, r)
waiting_none heap n m c (d ∷ base) rest m-is =
    let one = waits_apart heap n m d (λ is. omega (arith, is, m-is)) in
    let r = waiting_none heap (suc n) m c base rest (omega (arith, m-is)) in
    omega (arith, one, r)

-- in a place of the heap or for no cost, a let's part doesn't wait
pub waits_saved : (heap : List Kept) (m c : ℕ) → IsSaved heap m → waits_one (place_in (first_part m) heap) c ≡ 0
waits_saved heap m c saved = ap (λ (o : Option ℕ). waits_one o c) saved.1

pub waits_free : (heap : List Kept) (m c : ℕ) → c ≡ 0 → waits_one (place_in (first_part m) heap) c ≡ 0
waits_free heap m c free = ap (waits_one (place_in (first_part m) heap)) free ∙ waits_nothing (place_in (first_part m) heap)

-- one let more, whose part isn't in the heap
pub waiting_new : (heap : List Kept) (cs : List ℕ) (c : ℕ) → (IsSaved heap (length cs) → ⊥) → waiting heap 0 (cs ++ c ∷ []) ≡ waiting heap 0 cs + c
waiting_new heap cs c new = elim (none_or_some (place_in (first_part (0 + length cs)) heap)) [
  | inl absent ↦ (let j = waiting_join heap 0 cs (c ∷ []) in let one = ap (λ (o : Option ℕ). waits_one o c) absent in omega (arith, j, one))
  | inr (p, at) ↦ absurd (new (p, ap (λ (k : ℕ). place_in (first_part k) heap) from ∙ at))
]
  where
    from : length cs ≡ 0 + length cs
    from = omega arith
