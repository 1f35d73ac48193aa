-- Lists that are made of the numbers of a range.
use Rattle.std.proofs.Common.{◌≡◌, ◌<◌, ◌+◌, ℕ, zero, suc, map, slice_get, Some, ap, ◌∙◌, arith}
use Rattle.std.specs.List.{range_with_len}

slice_get-from : {A : Type 0} → (f : ℕ → A) (from n i : ℕ) → i < n → slice_get (map f (range_with_len from n)) i ≡ Some (f (from + i))
slice_get-from f from zero i below = absurd (omega arith)
slice_get-from f from (suc n) zero below = ap (λ k. Some (f k)) (let e : from ≡ from + 0 = omega arith in e)
slice_get-from f from (suc n) (suc i) below = slice_get-from f (from + 1) n i (omega arith) ∙ ap (λ k. Some (f k)) (let e : (from + 1) + i ≡ from + suc i = omega arith in e)

-- the row at a place of a table
pub slice_get-rows : {A : Type 0} → (f : ℕ → A) (n i : ℕ) → i < n → slice_get (map f (range_with_len 0 n)) i ≡ Some (f i)
slice_get-rows f n i below = slice_get-from f 0 n i below ∙ ap (λ k. Some (f k)) (let e : 0 + i ≡ i = omega arith in e)
