-- What is in a list.
use Rattle.std.proofs.Common.{◌≡◌, ◌⊎◌, ℕ, zero, suc, List, [], ◌∷◌, Some, refl, ap, subst, inl, inr, arith, Contains, ◌∙◌}
use Rattle.std.specs.Prelude.{slice_get}
use Rattle.std.proofs.lemmas.Bool.{cases_eq}
use Rattle.std.proofs.lemmas.Option.{slice_get_within, get_or_from_slice_get, slice_get-get_or}

pub contains_none : {A : Type 0} (x : A) → Contains [] x → ⊥
contains_none x (k, below, is) = absurd (omega (arith, below))

pub contains_head : {A : Type 0} (y : A) (ys : List A) → Contains (y ∷ ys) y
contains_head y ys = (zero, omega arith, refl)

pub contains_tail : {A : Type 0} (y x : A) (ys : List A) → Contains ys x → Contains (y ∷ ys) x
contains_tail y x ys (k, below, is) = (suc k, omega (arith, below), is)

pub contains_cases : {A : Type 0} (y x : A) (ys : List A) → Contains (y ∷ ys) x → (y ≡ x) ⊎ Contains ys x
contains_cases y x ys (zero, below, is) = inl is
contains_cases y x ys (suc k, below, is) = inr (k, omega (arith, below), is)

pub contains_at : {A : Type 0} (xs : List A) (i : ℕ) (x : A) → slice_get xs i ≡ Some x → Contains xs x
contains_at xs i x at = (i, slice_get_within xs i x at, get_or_from_slice_get xs i x x at)

pub place-of : {A : Type 0} (xs : List A) (x : A) → Contains xs x → (i : ℕ) × (slice_get xs i ≡ Some x)
place-of xs x (k, below, is) = (k, slice_get-get_or xs k x below ∙ ap Some is)

pub contains-decided : (xs : List ℕ) (y : ℕ) → Contains xs y ⊎ (Contains xs y → ⊥)
contains-decided [] y = inr (contains_none y)
contains-decided (x ∷ xs) y = go (cases_eq x y) (contains-decided xs y)
  where
    go : (x ≡ y) ⊎ (x ≡ y → ⊥) → Contains xs y ⊎ (Contains xs y → ⊥) → Contains (x ∷ xs) y ⊎ (Contains (x ∷ xs) y → ⊥)
    go (inl is) rest = inl (subst (Contains (x ∷ xs)) is (contains_head x xs))
    go (inr other) (inl has) = inl (contains_tail x y xs has)
    go (inr other) (inr out) = inr (λ has. elim (contains_cases x y xs has) [ inl is ↦ other is | inr rest ↦ out rest ])
