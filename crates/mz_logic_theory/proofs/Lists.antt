-- What a loop has seen of a list, and the whole list.
use Rattle.std.proofs.Common.{ℕ, ◌≡◌, ◌<◌, ◌≤◌, ◌+◌, ◌⊎◌, List, [], length, get_or, slice_get, Some, sym, ◌∙◌, subst, inl, inr, arith, eq-or-lt_of_le, not-suc-le-zero, All}
use Rattle.std.proofs.lemmas.List.{get_or_default}
use Rattle.std.proofs.lemmas.Option.{slice_get_within, get_or_from_slice_get, slice_get-get_or}
use Rattle.mz_base.proofs.Offered.{AllSoFar}

-- all of no elements
pub nothing_in : {X : Type 0} (P : X → Type 0) → All P []
nothing_in P k d below = absurd (not-suc-le-zero below)

-- at the end of the loop
pub all_at_end : {X : Type 0} (P : X → Type 0) (xs ys : List X) (i : ℕ) → AllSoFar P xs i → length xs ≤ i → xs ≡ ys → All P ys
all_at_end P xs ys i seen done same = subst (All P) same (λ k d below. seen k d (omega arith))

-- P of each element, by the two ways to read one
pub each_from_all : {X : Type 0} (P : X → Type 0) (xs : List X) → All P xs → (i : ℕ) (x : X) → slice_get xs i ≡ Some x → P x
each_from_all P xs all i x at = subst P (get_or_from_slice_get xs i x x at) (all i x (slice_get_within xs i x at))

pub all_from_each : {X : Type 0} (P : X → Type 0) (xs : List X) → ((i : ℕ) (x : X) → slice_get xs i ≡ Some x → P x) → All P xs
all_from_each P xs each k d below = each k (get_or xs k d) (slice_get-get_or xs k d below)

-- the same of a fact that speaks of the place too
abbrev pub EachSoFar : {X : Type 0} → (ℕ → X → Type 0) → List X → ℕ → Type 0
EachSoFar {X} P xs i = (k : ℕ) (d : X) → k < i → P k (get_or xs k d)

-- e is what was read at i
pub each_so_far_more : {X : Type 0} (P : ℕ → X → Type 0) (xs : List X) (i : ℕ) (e : X) → EachSoFar P xs i → i < length xs → e ≡ get_or xs i e → P i e → EachSoFar P xs (i + 1)
each_so_far_more P xs i e seen within is here k d below = go (eq-or-lt_of_le up_to)
  where
    up_to : k ≤ i
    up_to = omega arith

    go : (k ≡ i) ⊎ (k < i) → P k (get_or xs k d)
    go (inl same) = subst (λ n. P n (get_or xs n d)) (sym same) (subst (P i) (is ∙ get_or_default xs i e d within) here)
    go (inr less) = seen k d less

pub each_at_end : {X : Type 0} (P : ℕ → X → Type 0) (xs : List X) (n : ℕ) → EachSoFar P xs n → length xs ≤ n → (i : ℕ) (x : X) → slice_get xs i ≡ Some x → P i x
each_at_end P xs n seen done i x at = subst (P i) (get_or_from_slice_get xs i x x at) (seen i x (let below : i < length xs = slice_get_within xs i x at in omega arith))

-- what fails at one element fails of all
pub not_all : {X : Type 0} (P : X → Type 0) (xs : List X) (i : ℕ) (e : X) → i < length xs → e ≡ get_or xs i e → (P e → ⊥) → All P xs → ⊥
not_all P xs i e within is fails all = fails (subst P (sym is) (all i e within))
