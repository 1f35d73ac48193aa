-- What the calls on paths of coercions answer.
use Rattle.std.specs.Prelude.{◌≡◌, ◌≤◌, ◌++◌, ℕ, List, [], ◌∷◌, Some, slice_get, length}
use Rattle.mz_math_theory.specs.declared.coercion.Coercion.{Coercion}
use Rattle.mz_math_theory.specs.Coercions.{IsPath}

-- a path from one sort to another has so many coercions, and not more than these
abbrev pub HasLength : List Coercion → ℕ → ℕ → ℕ → ℕ → Type 0
HasLength cs many from to n = (path : List ℕ) × IsPath cs from path to × (length path ≡ n) × (n ≤ many)

-- where the i-th coercion begins and ends, a new one being the last
abbrev pub MayStart : List Coercion → Coercion → ℕ → ℕ → Type 0
MayStart cs c i s = (d : Coercion) × (slice_get (cs ++ c ∷ []) i ≡ Some d) × (d.from ≡ s)

abbrev pub MayEnd : List Coercion → Coercion → ℕ → ℕ → Type 0
MayEnd cs c i s = (d : Coercion) × (slice_get (cs ++ c ∷ []) i ≡ Some d) × (d.to ≡ s)

-- two paths, one of them by the new coercion
abbrev pub IsClashAt : List Coercion → Coercion → ℕ → ℕ → Type 0
IsClashAt cs c from to = (p : List ℕ) × (q : List ℕ) × (r : List ℕ) × IsPath cs from p c.from × IsPath cs c.to q to × IsPath cs from r to

-- there is a path
abbrev pub HasPath : List Coercion → ℕ → ℕ → Type 0
HasPath cs from to = (path : List ℕ) × IsPath cs from path to

-- the p-th coercion begins the path from a sort to another
abbrev pub IsNext : List Coercion → ℕ → ℕ → ℕ → Coercion → Type 0
IsNext cs from to p c = (slice_get cs p ≡ Some c) × (c.from ≡ from) × HasPath cs c.to to × ((q : ℕ) (path : List ℕ) → IsPath cs from (q ∷ path) to → q ≡ p)
