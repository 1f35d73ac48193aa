-- What a loop has seen of a list.
use Rattle.std.proofs.Common.{ℕ, ◌≡◌, ◌<◌, ◌≤◌, ◌+◌, ◌⊎◌, List, length, get_or, sym, ap, ◌∙◌, subst, inl, inr, arith, eq-or-lt_of_le, Contains}
use Rattle.std.proofs.lemmas.List.{get_or_default}

-- P of each element before the place
abbrev pub AllSoFar : {X : Type 0} → (X → Type 0) → List X → ℕ → Type 0
AllSoFar {X} P xs i = (k : ℕ) (d : X) → k < i → P (get_or xs k d)

pub all_so_far_more : {X : Type 0} (P : X → Type 0) (xs : List X) (i : ℕ) (e : X) → AllSoFar P xs i → i < length xs → P (get_or xs i e) → AllSoFar P xs (i + 1)
all_so_far_more P xs i e seen within here k d below = go (eq-or-lt_of_le up_to)
  where
    up_to : k ≤ i
    up_to = omega arith

    go : (k ≡ i) ⊎ (k < i) → P (get_or xs k d)
    go (inl same) = subst P (get_or_default xs i e d within ∙ ap (λ n. get_or xs n d) (sym same)) here
    go (inr less) = seen k d less

-- at the end of a loop
pub all-members : {X : Type 0} (P : X → Type 0) (xs : List X) {i : ℕ} → AllSoFar P xs i → length xs ≤ i → (x : X) → Contains xs x → P x
all-members P xs seen done x (k, below, is) = subst P is (seen k x (omega arith))

-- the same of places alone
pub each_before_more : (P : ℕ → Type 0) (i : ℕ) → ((k : ℕ) → k < i → P k) → P i → (k : ℕ) → k < i + 1 → P k
each_before_more P i before here k below = elim (eq-or-lt_of_le up_to) [ inl same ↦ subst P (sym same) here | inr less ↦ before k less ]
  where
    up_to : k ≤ i
    up_to = omega (arith, below)
