-- The operands of two applications, side by side.
use Rattle.std.specs.Prelude.{ℕ, ◌≡◌, List, [], ◌∷◌, length, reverse, slice_get}
use Rattle.mz_trace.specs.Nodes.{IsApplication, Applies}
use Rattle.mz_trace.specs.declared.node.RunNode.{RunNode}

-- the i-th of one list beside the i-th of the other
abbrev pub paired : List ℕ → List ℕ → List (ℕ × ℕ)
paired [] qs = []
paired (o ∷ os) [] = []
paired (o ∷ os) (q ∷ qs) = (o, q) ∷ paired os qs

-- both are applications, to as many operands
abbrev pub AreApplications : List RunNode → (l r : ℕ) → Type 0
AreApplications ns l r = IsApplication (slice_get ns l) × IsApplication (slice_get ns r)
    × ((t u : ℕ) (os qs : List ℕ) → Applies (slice_get ns l) t os → Applies (slice_get ns r) u qs → length os ≡ length qs)

-- the left one's term, and the operands of both, the first ones last
abbrev pub HaveSides : List RunNode → (l r t : ℕ) → List (ℕ × ℕ) → Type 0
HaveSides ns l r t ps = (u : ℕ) × (os qs : List ℕ) × Applies (slice_get ns l) t os × Applies (slice_get ns r) u qs × (reverse ps ≡ paired os qs)
