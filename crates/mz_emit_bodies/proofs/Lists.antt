-- Lists: one place set, and the last one; and what follows where a call goes well.
use Rattle.std.specs.Prelude.{ℕ, ◌≡◌, ◌<◌, ◌-◌, ◌⊎◌, List, [], ◌∷◌, ◌++◌, length, take, drop, get_or, slice_get, map, OnOk, Option, Some, None}
use Rattle.std.proofs.Common.{zero, suc, Result, Ok, Err, refl, sym, ap, ◌∙◌, arith, slice_set, slice_index_or, inl, inr}
use Rattle.std.proofs.Math.Seq.{take-length}

pub set_map : (A B : Type 0) (g : A → B) (xs : List A) (i : ℕ) (x y : A) → i < length xs → x ≡ slice_index_or xs i x → g y ≡ g x → map g (slice_set xs i y) ≡ map g xs
set_map A B g [] i x y lt is same = absurd (omega (arith, lt))
set_map A B g (z ∷ xs) zero x y lt is same = ap (λ (b : B). b ∷ map g xs) (same ∙ ap g is)
set_map A B g (z ∷ xs) (suc i) x y lt is same = ap (λ (bs : List B). g z ∷ bs) (set_map A B g xs i x y (omega (arith, lt)) is same)

pub set_long : (A : Type 0) (xs : List A) (i : ℕ) (y : A) → length (slice_set xs i y) ≡ length xs
set_long A (z ∷ xs) (suc i) y = ap suc (set_long A xs i y)
set_long A _ _ y = refl

pub set_at : (A B : Type 0) (g : A → B) (xs : List A) (i : ℕ) (y : A) (b : B) → i < length xs → get_or (map g (slice_set xs i y)) i b ≡ g y
set_at A B g [] i y b lt = absurd (omega (arith, lt))
set_at A B g (z ∷ xs) zero y b lt = refl
set_at A B g (z ∷ xs) (suc i) y b lt = set_at A B g xs i y b (omega (arith, lt))

pub set_others : (A B : Type 0) (g : A → B) (xs : List A) (i j : ℕ) (y : A) (b : B) → (j ≡ i → ⊥) → get_or (map g (slice_set xs i y)) j b ≡ get_or (map g xs) j b
set_others A B g (z ∷ xs) zero zero y b other = absurd (other refl)
set_others A B g (z ∷ xs) (suc i) (suc j) y b other = set_others A B g xs i j y b (λ is. other (ap suc is))
set_others A B g _ _ _ y b other = refl

pub get_slice : (A : Type 0) (xs : List A) (i : ℕ) (z : A) → i < length xs → slice_get xs i ≡ Some (get_or xs i z)
get_slice A [] i z lt = absurd (omega (arith, lt))
get_slice A (x ∷ xs) zero z lt = refl
get_slice A (x ∷ xs) (suc i) z lt = get_slice A xs i z (omega (arith, lt))

pub slice_last : (A : Type 0) (xs : List A) (y : A) (n : ℕ) → n ≡ length xs → slice_get (xs ++ y ∷ []) n ≡ Some y
slice_last A [] y zero is = refl
slice_last A (x ∷ xs) y (suc n) is = slice_last A xs y n (omega (arith, is))
slice_last A _ y _ is = absurd (omega (arith, is))

pub last_or_before : (A : Type 0) (xs : List A) (y : A) (k : ℕ) (p : A) → slice_get (xs ++ y ∷ []) k ≡ Some p → (slice_get xs k ≡ Some p) ⊎ ((k ≡ length xs) × (y ≡ p))
last_or_before A [] y zero p at = inr (refl, from at)
  where
    from : ◌≡◌ {A = Option A} (Some y) (Some p) → y ≡ p
    from e = cc
last_or_before A [] y (suc k) p at = absurd (grind (arith, at))
last_or_before A (x ∷ xs) y zero p at = inl at
last_or_before A (x ∷ xs) y (suc k) p at = elim (last_or_before A xs y k p at) [ inl h ↦ inl h | inr (k-is, y-is) ↦ inr (ap suc k-is, y-is) ]

pub none_last : (xs : List (Option ℕ)) (c p : ℕ) → get_or (xs ++ None ∷ []) c None ≡ Some p → get_or xs c None ≡ Some p
none_last (x ∷ xs) (suc c) p is = none_last xs c p is
none_last [] zero p is = is
none_last _ _ p is = is

pub index_slice : (A : Type 0) (xs : List A) (i : ℕ) (x d : A) → i < length xs → x ≡ slice_index_or xs i d → slice_get xs i ≡ Some x
index_slice A [] i x d lt is = absurd (omega (arith, lt))
index_slice A (y ∷ xs) zero x d lt is = ap (λ (z : A). Some z) (sym is)
index_slice A (y ∷ xs) (suc i) x d lt is = index_slice A xs i x d (omega (arith, lt)) is

pub get_end : (A : Type 0) (xs : List A) (y z : A) → get_or (xs ++ y ∷ []) (length xs) z ≡ y
get_end A [] y z = refl
get_end A (x ∷ xs) y z = get_end A xs y z

-- what holds of each and of one more
pub each_last : (A : Type 0) (d : A) (P : A → Type 0) (xs : List A) (y : A) (i : ℕ) → ((j : ℕ) → P (get_or xs j d)) → P y → P d → P (get_or (xs ++ y ∷ []) i d)
each_last A d P [] y zero each last past = last
each_last A d P [] y (suc i) each last past = past
each_last A d P (x ∷ xs) y zero each last past = each zero
each_last A d P (x ∷ xs) y (suc i) each last past = each_last A d P xs y i (λ j. each (suc j)) last past

-- what stands behind the first
pub rest_whole : (A : Type 0) (y : A) (ys : List A) → take (length (y ∷ ys) - 1) (drop 1 (y ∷ ys)) ≡ ys
rest_whole A y ys = (let e : length (y ∷ ys) - 1 ≡ length ys = omega arith in ap (λ (n : ℕ). take n ys) e ∙ take-length ys)

-- of two facts that hold where a call goes well
pub on_ok_both : {T E P Q R : Type 0} (r : Result T E) → (P → Q → R) → OnOk r P → OnOk r Q → OnOk r R
on_ok_both (Ok x) f p q = f p q
on_ok_both (Err e) f p q = tt
