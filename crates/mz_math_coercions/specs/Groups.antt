-- Sorts in groups.
use Rattle.std.specs.Prelude.{◌≡◌, ◌≤◌, ℕ, List, Contains, get_or}
use Rattle.mz_math_theory.specs.declared.coercion.Coercion.{Coercion}

-- the sort to which a sort points
abbrev pub up_of : List ℕ → ℕ → ℕ
up_of ups s = get_or ups s s

-- none points to a later one
abbrev pub GoDown : List ℕ → Type 0
GoDown ups = (s : ℕ) → up_of ups s ≤ s

-- the name of a sort is the sort that points to itself at the end of its way
abbrev pub IsNamed : List ℕ → (ℕ → ℕ) → Type 0
IsNamed ups name = ((s : ℕ) → name (up_of ups s) ≡ name s) × ((s : ℕ) → up_of ups s ≡ s → name s ≡ s)

-- sorts that had one name have one, and so have these two
abbrev pub AreJoined : List ℕ → List ℕ → ℕ → ℕ → Type 0
AreJoined ups new one other = (name : ℕ → ℕ) → IsNamed ups name
    → (name' : ℕ → ℕ) × IsNamed new name' × ((s t : ℕ) → name s ≡ name t → name' s ≡ name' t) × (name' one ≡ name' other)

-- each coercion leads from a sort to one of the same group
abbrev pub AreGrouped : List Coercion → List ℕ → Type 0
AreGrouped cs ups = (name : ℕ → ℕ) × IsNamed ups name × ((c : Coercion) → Contains cs c → name c.from ≡ name c.to)
