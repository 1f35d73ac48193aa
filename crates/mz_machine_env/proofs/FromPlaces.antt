-- Lists, from a place on.
use Rattle.std.proofs.Common.{◌≡◌, ℕ, zero, suc, List, [], ◌∷◌, drop, Some, ap}
use Rattle.std.specs.Prelude.{slice_get}

pub next-at : {A : Type 0} (xs : List A) (j : ℕ) (x : A) → slice_get xs j ≡ Some x → drop j xs ≡ x ∷ drop (suc j) xs
next-at [] j x at = absurd cc
next-at (y ∷ ys) zero x at = let same : y ≡ x = cc in ap (λ z. z ∷ ys) same
next-at (y ∷ ys) (suc j) x at = next-at ys j x at
