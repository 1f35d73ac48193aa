-- Notations that cannot be mistaken for one another (mm0.md, section on notations).
use Rattle.std.specs.Prelude.{◌≡◌, ◌<◌, ◌⊎◌, ℕ, List, ◌∷◌, Some, slice_get, Contains}
use Rattle.mz_math_theory.specs.Notation.{max_level, Element, fixed, slot, Notation}

-- a constant of a notation, and its precedence there
abbrev pub HasConstant : List Notation → List ℕ → ℕ → Type 0
HasConstant ks w q = (k : Notation) × Contains ks k × Contains k.elements (fixed w q)

-- the constant with which a notation begins
abbrev pub LedBy : Notation → List ℕ → Type 0
LedBy k w = (ls : List Element) × (k.elements ≡ fixed w k.level ∷ ls)

-- the constant behind the first parameter of a notation
abbrev pub JoinedBy : Notation → List ℕ → Type 0
JoinedBy k w = (i : ℕ) × (ls : List Element) × (k.elements ≡ slot i ∷ fixed w k.level ∷ ls)

-- no two notations that a constant makes
abbrev pub IsOne : (Notation → List ℕ → Type 0) → List Notation → Type 0
IsOne By ks = (i j : ℕ) (k l : Notation) (w : List ℕ) → slice_get ks i ≡ Some k → slice_get ks j ≡ Some l → By k w → By l w → i ≡ j

-- infix forms of one precedence group alike; a constant has one precedence; notations have constants of their own; no infix is at max
pub record IsClear (leading infixes : List Notation) : Type 0 where
  pub groups : (k l : Notation) → Contains infixes k → Contains infixes l → k.level ≡ l.level → k.is_right ≡ l.is_right
  pub levels : (w : List ℕ) (q p : ℕ) → HasConstant leading w q ⊎ HasConstant infixes w q → HasConstant leading w p ⊎ HasConstant infixes w p → q ≡ p
  pub led : IsOne LedBy leading
  pub joined : IsOne JoinedBy infixes
  pub not_max : (k : Notation) → Contains infixes k → k.level < max_level
