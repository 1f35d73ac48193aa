-- The first coercion of each path, by the two sorts between which it leads.
use Rattle.std.specs.Prelude.{◌≡◌, ◌⊎◌, ◌+◌, ◌*◌, ◌&&◌, ◌∷◌, ℕ, Bool, List, Contains, Option, None, Some, cond, get_or, nat_lt}
use Rattle.mz_math_theory.specs.declared.coercion.Coercion.{Coercion}
use Rattle.mz_math_theory.specs.Coercions.{IsPath}
use Rattle.mz_math_coercions.specs.declared.hops.FirstSteps.{FirstSteps}
use Rattle.mz_math_coercions.specs.Reached.{Has}

-- ---- what is kept

-- both sorts are below 128
abbrev pub are_near : ℕ → ℕ → Bool
are_near s to = nat_lt s 128 && nat_lt to 128

-- the place of two such sorts in the square, in which a row is for one end
abbrev pub cell_of : ℕ → ℕ → ℕ
cell_of s to = to * 128 + s

-- what the square keeps in a cell
abbrev pub near_at : List (Option ℕ) → ℕ → Option ℕ
near_at cells i = get_or cells i None

-- what is kept for two sorts
abbrev pub first_of : FirstSteps → ℕ → ℕ → Option ℕ
first_of m s to = cond (are_near s to) (near_at m.near.items (cell_of s to)) None

-- each path between the two sorts begins with the coercion that is kept for them, and where one is kept there is a path
abbrev pub IsLed : List Coercion → FirstSteps → ℕ → ℕ → Type 0
IsLed cs m s to = ((p : ℕ) (path : List ℕ) → IsPath cs s (p ∷ path) to → first_of m s to ≡ Some p)
    × ((p : ℕ) → first_of m s to ≡ Some p → (path : List ℕ) × IsPath cs s (p ∷ path) to)

-- so for all sorts
abbrev pub AreLed : List Coercion → FirstSteps → Type 0
AreLed cs m = (s to : ℕ) → IsLed cs m s to

-- ---- what is kept, before and after a change

-- for two sorts the same is kept in both, or what P says of them
abbrev pub IsChanged : FirstSteps → FirstSteps → (ℕ → ℕ → Option ℕ → Type 0) → Type 0
IsChanged m n P = (s to : ℕ) → (first_of n s to ≡ first_of m s to) ⊎ P s to (first_of n s to)

-- this is kept for two sorts, and the same as before for all others
abbrev pub IsPut : FirstSteps → FirstSteps → ℕ → ℕ → ℕ → Type 0
IsPut m n s to p = (first_of n s to ≡ Some p) × IsChanged m n (λ x y o. (s ≡ x) × (to ≡ y) × (o ≡ Some p))

-- the same of the cells of the square
abbrev pub IsSet : List (Option ℕ) → List (Option ℕ) → ℕ → Option ℕ → Type 0
IsSet cells new i w = (near_at new i ≡ w) × ((j : ℕ) → (j ≡ i → ⊥) → near_at new j ≡ near_at cells j)

-- ---- starts, each with the place of the first coercion of the path from it, and ends

-- the place of a start, between it and an end
abbrev pub IsOfStart : ℕ → ℕ → List (ℕ × ℕ) → ℕ → ℕ → Option ℕ → Type 0
IsOfStart from p ends s to o = (from ≡ s) × Has ends to × (o ≡ Some p)

-- the place of one of the starts, between it and an end
abbrev pub IsOfStarts : List (ℕ × ℕ) → List (ℕ × ℕ) → ℕ → ℕ → Option ℕ → Type 0
IsOfStarts starts ends s to o = (p : ℕ) × Contains starts (s, p) × Has ends to × (o ≡ Some p)
