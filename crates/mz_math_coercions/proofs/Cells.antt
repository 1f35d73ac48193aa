-- The cells of the square, and what is kept for two sorts after a change.
use Rattle.std.proofs.Common.{◌≡◌, ◌<◌, ◌≤◌, ◌⊎◌, ◌++◌, ◌∙◌, ℕ, zero, suc, List, [], ◌∷◌, length, Bool, true, false, None, Some, Option, slice_set, ap, sym, refl, inl, inr, arith, ltb-true}
use Rattle.std.specs.Prelude.{cond, nat_lt}
use Rattle.std.proofs.lemmas.Bool.{and_parts, cases_eq}
use Rattle.std.proofs.lemmas.List.{get_or-set_same, get_or-set_other}
use Rattle.mz_math_coercions.specs.declared.hops.FirstSteps.{FirstSteps}
use Rattle.mz_math_coercions.specs.Firsts.{are_near, cell_of, first_of, near_at, IsChanged, IsPut, IsSet}

-- ---- the cells alone

-- one empty cell more
pub near-more : (cells : List (Option ℕ)) (j : ℕ) → near_at (cells ++ None ∷ []) j ≡ near_at cells j
near-more [] zero = refl
near-more [] (suc j) = refl
near-more (c ∷ cells) zero = refl
near-more (c ∷ cells) (suc j) = near-more cells j

near-past : (cells : List (Option ℕ)) (j : ℕ) → length cells ≤ j → near_at cells j ≡ None
near-past [] zero past = refl
near-past [] (suc j) past = refl
near-past (c ∷ cells) zero past = absurd (omega (arith, past))
near-past (c ∷ cells) (suc j) past = near-past cells j (omega (arith, past))

-- a cell is written, once there are enough
pub set-here : (cells more : List (Option ℕ)) (i : ℕ) (w : Option ℕ) → i < length more → ((j : ℕ) → near_at more j ≡ near_at cells j) → IsSet cells (slice_set more i w) i w
set-here cells more i w below same = (get_or-set_same more i w None below, λ j other. get_or-set_other more i j w None other ∙ same j)

-- ---- two sorts

first-near : (m : FirstSteps) (s to : ℕ) → are_near s to ≡ true → first_of m s to ≡ near_at m.near.items (cell_of s to)
first-near m s to near = ap (λ b. cond b (near_at m.near.items (cell_of s to)) None) near

first-far : (m : FirstSteps) (s to : ℕ) → are_near s to ≡ false → first_of m s to ≡ None
first-far m s to away = ap (λ b. cond b (near_at m.near.items (cell_of s to)) None) away

pub none-first : (m : FirstSteps) → m.near.items ≡ [] → (s to : ℕ) → first_of m s to ≡ None
none-first m near s to = go (are_near s to) refl
  where
    go : (b : Bool) → are_near s to ≡ b → first_of m s to ≡ None
    go true is = first-near m s to is ∙ ap (λ cells. near_at cells (cell_of s to)) near ∙ near-past [] (cell_of s to) (omega arith)
    go false is = first-far m s to is

-- no two pairs of sorts have one cell
one-cell : (s t x y : ℕ) → are_near s t ≡ true → are_near x y ≡ true → cell_of x y ≡ cell_of s t → (s ≡ x) × (t ≡ y)
one-cell s t x y here there same =
    let (a, b) = and_parts (nat_lt s 128) (nat_lt t 128) here in
    let (c, d) = and_parts (nat_lt x 128) (nat_lt y 128) there in
    (omega (arith, ltb-true s 128 a, ltb-true x 128 c, same), omega (arith, ltb-true s 128 a, ltb-true x 128 c, same))

-- one pair is changed
pub near-put : (m n : FirstSteps) (s t p : ℕ) → are_near s t ≡ true → IsSet m.near.items n.near.items (cell_of s t) (Some p) → IsPut m n s t p
near-put m n s t p near set = (first-near n s t near ∙ set.0, change)
  where
    change : IsChanged m n (λ x y o. (s ≡ x) × (t ≡ y) × (o ≡ Some p))
    change x y = go (are_near x y) refl
      where
        go : (b : Bool) → are_near x y ≡ b → (first_of n x y ≡ first_of m x y) ⊎ ((s ≡ x) × (t ≡ y) × (first_of n x y ≡ Some p))
        go false is = inl (first-far n x y is ∙ sym (first-far m x y is))
        go true is = elim (cases_eq (cell_of x y) (cell_of s t)) [
          | inl same ↦ let (a, b) = one-cell s t x y near is same in inr (a, b, first-near n x y is ∙ ap (near_at n.near.items) same ∙ set.0)
          | inr other ↦ inl (first-near n x y is ∙ set.1 (cell_of x y) other ∙ sym (first-near m x y is))
        ]
