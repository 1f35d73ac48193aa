-- A fact of the expressions that a loop has left, with one of them more.
use Rattle.std.proofs.Common.{◌⊎◌, ◌↔◌, inl, inr}

-- A of what is left is B of the first one and C of the others; or one of these
module _ {A B C W : Type 0} (so_far : A ↔ W) where
  pub each_passed : (A → B × C) → (B → C → A) → B → C ↔ W
  each_passed to from here = (λ rest. so_far.0 (from here rest), λ w. (to (so_far.1 w)).1)

  pub each_fails : (A → B × C) → (B → ⊥) → W → ⊥
  each_fails to out w = out (to (so_far.1 w)).0

  pub some_passed : (A → B ⊎ C) → (C → A) → (B → ⊥) → C ↔ W
  some_passed to from out = (λ rest. so_far.0 (from rest), λ w. elim (to (so_far.1 w)) [ inl here ↦ absurd (out here) | inr rest ↦ rest ])
