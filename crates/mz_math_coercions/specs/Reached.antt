-- What a walk along coercions reaches.
use Rattle.std.specs.Prelude.{◌≡◌, ◌⊎◌, ℕ, List, Contains, Some, slice_get}
use Rattle.mz_math_theory.specs.declared.coercion.Coercion.{Coercion}
use Rattle.mz_math_theory.specs.CoercionAnswers.{HasPath}

-- the sort is among those that are listed, each with a place
abbrev pub Has : List (ℕ × ℕ) → ℕ → Type 0
Has steps s = (p : ℕ) × Contains steps (s, p)

-- the same sorts as are listed, each with a place that stands beside it
abbrev pub AreFoundIn : List (ℕ × ℕ) → List (ℕ × ℕ) → Type 0
AreFoundIn entries steps = ((s p : ℕ) → Contains entries (s, p) → Contains steps (s, p)) × ((s : ℕ) → Has steps s → Has entries s)

-- the p-th coercion leads from a sort to another
abbrev pub IsStep : List Coercion → ℕ → ℕ → ℕ → Type 0
IsStep cs s p t = (c : Coercion) × (slice_get cs p ≡ Some c) × (c.from ≡ s) × (c.to ≡ t)

-- those sorts to which a path leads from one of the first ones; beside each other stands the place of a coercion from one of them to it
pub record AreReached (cs : List Coercion) (first steps : List (ℕ × ℕ)) : Type 0 where
  pub only : (t : ℕ) → Has steps t → (s : ℕ) × Has first s × HasPath cs s t
  pub all : (s t : ℕ) → Has first s → HasPath cs s t → Has steps t
  pub via : (t p : ℕ) → Contains steps (t, p) → Contains first (t, p) ⊎ ((s : ℕ) × Has steps s × IsStep cs s p t)
