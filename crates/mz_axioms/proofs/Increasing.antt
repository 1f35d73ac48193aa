-- Ascending lists of numbers.
use Rattle.std.proofs.Common.{◌≡◌, ◌≤◌, ◌<◌, ◌+◌, ℕ, zero, suc, List, [], ◌∷◌, map, length, get_or, arith}
use Rattle.std.specs.Prelude.{All, Contains}
use Rattle.std.specs.List.Sorted.{IsStrictlyIncreasing}
use Rattle.std.proofs.lemmas.List.{length-map, get_or-map}
use Rattle.std.proofs.lemmas.List.Elements.{Contains-get_or}
use Rattle.std.proofs.lemmas.List.Kept.{AllPairs-from_increasing}

pub increasing-map : (f : ℕ → ℕ) (xs : List ℕ) → IsStrictlyIncreasing xs → ((x y : ℕ) → Contains xs x → Contains xs y → x < y → f x < f y) → IsStrictlyIncreasing (map f xs)
increasing-map f xs up grows k lt =
    let long : length (map f xs) ≡ length xs = length-map xs f in
    let inside : k + 1 < length xs = omega (arith, lt, long) in
    let a = get_or-map f xs k 0 0 (omega (arith, inside)) in
    let b = get_or-map f xs (k + 1) 0 0 inside in
    let c = grows (get_or xs k 0) (get_or xs (k + 1) 0) (Contains-get_or xs k 0 (omega (arith, inside))) (Contains-get_or xs (k + 1) 0 inside) (up k inside) in
    omega (arith, a, b, c)

-- an element of an ascending list is less than those after it
pub increasing-pair : (xs : List ℕ) (i j : ℕ) → IsStrictlyIncreasing xs → i < j → j < length xs → get_or xs i 0 < get_or xs j 0
increasing-pair xs i j up lt within = AllPairs-from_increasing xs up i j 0 lt within

-- as many numbers below n as ascend are no more than n
pub at-least : (xs : List ℕ) (k : ℕ) → IsStrictlyIncreasing xs → k < length xs → k ≤ get_or xs k 0
at-least xs zero up lt = omega arith
at-least xs (suc k) up lt =
    let a = at-least xs k up (omega (arith, lt)) in
    let b = increasing-pair xs k (suc k) up (omega arith) lt in
    omega (arith, a, b)

pub increasing-few : (xs : List ℕ) (n : ℕ) → IsStrictlyIncreasing xs → All (λ x. x < n) xs → length xs ≤ n
increasing-few [] n up below = omega arith
increasing-few (x ∷ xs) n up below =
    let a = at-least (x ∷ xs) (length xs) up (omega arith) in
    let b = below (length xs) 0 (omega arith) in
    omega (arith, a, b)
