-- Places among the dependencies, and binders that depend on the same as the ones before them.
use Rattle.std.proofs.Common.{ℕ, Bool, true, false, ◌≡◌, ◌<◌, ◌-◌, ◌∙◌, ◌↔◌, List, [], ◌∷◌, ◌++◌, length, get_or, Some, Result, Ok, Err, is_ok, nat_cmp, Contains, All, ap, refl, sym, subst, inl, inr, arith, eqb}
use Rattle.std.specs.Prelude.{OnOk, OnErr}
use Rattle.std.specs.Cmp.{ranks}
use Rattle.std.specs.List.{IsAnyAnswer, IsAllAdjacentAnswer}
use Rattle.std.specs.List.Sorted.{IsBinarySearchResult, IsNonDecreasing, IsSearchInRange}
use Rattle.std.specs.Option.{option_map_or}
use Rattle.std.specs.Ordering.{MatchOrdering, is_le, is_some_and}
use Rattle.std.proofs.lemmas.Bool.{cases_lt, eq-eqb, eqb-true, false≢true}
use Rattle.std.proofs.lemmas.List.{get_or_default}
use Rattle.std.proofs.lemmas.List.Elements.{All-push}
use Rattle.std.proofs.lemmas.List.Sorted.{non_decreasing_from_is_sorted, searched}
use Rattle.mz_base.proofs.Offered.{length-push, slice_get-last, slice_get-within}
use Rattle.mz_logic_theory.specs.Alike.{deps_at, DependsAsPrevious}
use Rattle.mz_logic_theory.specs.declared.binder.Binder.{Binder}

-- ---- a place among others

pub sorted : (xs ys : List ℕ) (r : Bool) → IsAllAdjacentAnswer (λ x y b. is_some_and is_le (Some (nat_cmp x y)) ≡ b) xs r → r ≡ true → xs ≡ ys → IsNonDecreasing ys
sorted xs ys true h e same = subst IsNonDecreasing same (non_decreasing_from_is_sorted xs true h)
sorted xs ys false h e same = absurd (false≢true e)

pub found : (xs : List ℕ) (x : ℕ) (r : Result ℕ ℕ) → IsNonDecreasing xs → IsBinarySearchResult (λ y. nat_cmp y x) xs r → (is_ok r ≡ true) ↔ Contains xs x
found xs x (Ok k) up h =
    let (below, at) = searched xs x (Ok k) h (λ i j le lt. up i j 0 le lt) in
    ((λ _. (k, below, get_or_default xs k x 0 below ∙ at)), λ _. refl)
found xs x (Err g) up h =
    let (_, low, high) = searched xs x (Err g) h (λ i j le lt. up i j 0 le lt) in (
      (λ e. absurd (false≢true e)),
      λ (k, below, is). elim (cases_lt k g) [
        | inl l ↦ absurd (omega (arith, low k l, get_or_default xs k x 0 below, is))
        | inr l ↦ absurd (omega (arith, high k l below, get_or_default xs k x 0 below, is))
      ],
    )

pub looked : (xs : List ℕ) (x : ℕ) (r : Bool) → IsAnyAnswer (λ y b. eqb y x ≡ b) xs r → (r ≡ true) ↔ Contains xs x
looked xs x true (k, below, at) = ((λ _. (k, below, eqb-true (get_or xs k x) x (at x))), λ _. refl)
looked xs x false none = ((λ e. absurd (false≢true e)), λ (k, below, is). absurd (false≢true (sym (none k x (omega arith) below) ∙ eq-eqb (get_or xs k x) x is)))

-- ---- binders

-- what was so is so where one more follows
pub alike-push : (bs : List Binder) (b : Binder) (places : List ℕ) → All (DependsAsPrevious bs) places → All (DependsAsPrevious (bs ++ b ∷ [])) places
alike-push bs b places all k d within =
    let (below, same) = all k d within in
    let i = get_or places k d in (
      (let many = length-push bs b in omega (arith, many, below)),
      ap (λ o. option_map_or (λ x. x.deps) o []) (slice_get-within bs (b ∷ []) (i - 1) (omega (arith, below))) ∙ same
          ∙ sym (ap (λ o. option_map_or (λ x. x.deps) o []) (slice_get-within bs (b ∷ []) i below)),
    )

pub alike-pushed : {T E : Type 0} (bs new : List Binder) (b : Binder) (places : List ℕ) (r : Result T E)
    → OnOk r (new ≡ bs ++ b ∷ []) → OnErr r (new ≡ bs) → All (DependsAsPrevious bs) places → All (DependsAsPrevious new) places
alike-pushed bs new b places (Ok _) is same all = subst (λ xs. All (DependsAsPrevious xs) places) (sym is) (alike-push bs b places all)
alike-pushed bs new b places (Err _) is same all = subst (λ xs. All (DependsAsPrevious xs) places) (sym same) all

-- one more that depends on what the last one does
pub alike-more : (bs new : List Binder) (b : Binder) (places marks : List ℕ) (place : ℕ) → new ≡ bs ++ b ∷ [] → marks ≡ places ++ place ∷ [] → place ≡ length bs
    → b.deps ≡ deps_at bs (length bs - 1) → All (DependsAsPrevious bs) places → All (DependsAsPrevious new) marks
alike-more bs new b places marks place new-is marks-are at deps all =
    subst (All (DependsAsPrevious new)) (sym (marks-are ∙ ap (λ k. places ++ k ∷ []) at))
    (subst (λ xs. All (DependsAsPrevious xs) (places ++ length bs ∷ [])) (sym new-is)
    (All-push (DependsAsPrevious (bs ++ b ∷ [])) places (length bs) (alike-push bs b places all) (below, same bs deps)))
  where
    below : length bs < length (bs ++ b ∷ [])
    below = let many = length-push bs b in omega (arith, many)

    same : (xs : List Binder) → b.deps ≡ deps_at xs (length xs - 1) → deps_at (xs ++ b ∷ []) (length xs - 1) ≡ deps_at (xs ++ b ∷ []) (length xs)
    same [] is = refl
    same (x ∷ xs) is =
        ap (λ o. option_map_or (λ y. y.deps) o []) (slice_get-within (x ∷ xs) (b ∷ []) (length (x ∷ xs) - 1) (omega arith)) ∙ sym is
        ∙ sym (ap (λ o. option_map_or (λ y. y.deps) o []) (slice_get-last (x ∷ xs) b))

-- a search finds the place
pub marked : (bs : List Binder) (xs ys : List ℕ) (i : ℕ) (r : Result ℕ ℕ) → IsSearchInRange r (length xs) → IsBinarySearchResult (λ y. nat_cmp y i) xs r → is_ok r ≡ true
    → xs ≡ ys → All (DependsAsPrevious bs) ys → deps_at bs (i - 1) ≡ deps_at bs i
marked bs xs ys i (Ok k) below h e same all = (subst (DependsAsPrevious bs) is (subst (All (DependsAsPrevious bs)) (sym same) all k 0 below)).1
  where
    is : get_or xs k 0 ≡ i
    is = subst (λ o. MatchOrdering o (get_or xs k 0 < i) (get_or xs k 0 ≡ i) (i < get_or xs k 0)) (h 0) (ranks (get_or xs k 0) i)
marked bs xs ys i (Err g) below h e same all = absurd (false≢true e)
