-- What the lets in sight are, cell by cell: a table with, for each cell, a value of each let in sight of it, the
-- outermost first and itself last.
use Rattle.std.specs.Prelude.{ℕ, List, [], ◌∷◌, ◌++◌, length, get_or, Option, Some, None}
use Rattle.mz_mmu_theory.specs.Proof.{Proof}
use Rattle.mz_emit_bodies.specs.Sight.{Part}

abbrev pub in_sight : {A : Type 0} → List (List A) → Option ℕ → List A
in_sight table None = []
in_sight table (Some c) = get_or table c []

-- the row of the n-th let, whose value f says of its number and of the values in sight of its part
abbrev pub row_of : {A : Type 0} → (ℕ → List A → Proof → A) → ℕ → List (List A) → Part → List A
row_of f n table p = in_sight table p.outer ++ f n (in_sight table p.outer) p.proof ∷ []

abbrev pub scopes_after : {A : Type 0} → (ℕ → List A → Proof → A) → List (List A) → List Part → List (List A)
scopes_after f table [] = table
scopes_after f table (p ∷ ps) = scopes_after f (table ++ row_of f (length table) table p ∷ []) ps

abbrev pub scopes : {A : Type 0} → (ℕ → List A → Proof → A) → List Part → List (List A)
scopes f ps = scopes_after f [] ps
