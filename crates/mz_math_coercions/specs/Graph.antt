-- Coercions in chains, by the sorts at which they begin.
use Rattle.std.specs.Prelude.{◌≡◌, ◌<◌, ◌≤◌, ◌+◌, ℕ, List, Some, get_or, map, slice_get, length}
use Rattle.mz_math_theory.specs.declared.coercion.Coercion.{Coercion}

-- n - 1 is the last place before b at which a coercion begins at the sort; n is 0 where there is none
abbrev pub IsLink : List Coercion → ℕ → ℕ → ℕ → Type 0
IsLink cs s b n = (n ≤ b)
    × ((q : ℕ) (c : Coercion) → slice_get cs q ≡ Some c → c.from ≡ s → q < b → q < n)
    × ((q : ℕ) → n ≡ q + 1 → (c : Coercion) × (slice_get cs q ≡ Some c) × (c.from ≡ s))

-- for each sort the last coercion from it, and for each coercion the one before it from its sort
abbrev pub AreChained : List Coercion → List ℕ → List ℕ → Type 0
AreChained cs last before = ((s : ℕ) → IsLink cs s (length cs) (get_or last s 0))
    × ((p : ℕ) (c : Coercion) → slice_get cs p ≡ Some c → IsLink cs c.from p (get_or before p 0))
    × (length before ≡ length cs)

-- a coercion that leads back
abbrev pub turned : Coercion → Coercion
turned c = record { term = c.term; from = c.to; to = c.from }

abbrev pub all_turned : List Coercion → List Coercion
all_turned cs = map turned cs
