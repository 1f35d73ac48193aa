-- Lists of binders that are the same one by one.
use Rattle.std.proofs.Common.{◌≡◌, ◌<◌, ℕ, suc, List, [], ◌∷◌, length, slice_get, ap₂, refl, arith}
use Rattle.std.proofs.lemmas.Option.{same_Some}
use Rattle.mz_logic_theory.specs.declared.binder.Binder.{Binder}

pub same-list : (xs ys : List Binder) → length xs ≡ length ys → ((k : ℕ) → k < length xs → slice_get xs k ≡ slice_get ys k) → xs ≡ ys
same-list [] [] many each = refl
same-list [] (y ∷ ys) many each = absurd (omega (arith, many))
same-list (x ∷ xs) [] many each = absurd (omega (arith, many))
same-list (x ∷ xs) (y ∷ ys) many each = ap₂ (λ z zs. z ∷ zs) (same_Some x y (each 0 (omega arith))) (same-list xs ys (omega (arith, many)) (λ k below. each (suc k) (omega (arith, below))))
