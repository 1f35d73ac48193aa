-- Coercions and their paths (mm0.md, section on coercions).
use Rattle.std.specs.Prelude.{◌≡◌, ◌≤◌, ℕ, List, [], ◌∷◌, Some, slice_get, get_or, length}
use Rattle.mz_logic_theory.specs.Tree.{Tree, app, none, more}
use Rattle.mz_math_theory.specs.declared.coercion.Coercion.{Coercion}

-- a path is given by the places of its coercions in the list of all: so two that are equal are two
abbrev pub IsPath : List Coercion → ℕ → List ℕ → ℕ → Type 0
IsPath cs s [] to = s ≡ to
IsPath cs s (p ∷ path) to = (c : Coercion) × (slice_get cs p ≡ Some c) × (c.from ≡ s) × IsPath cs c.to path to

-- no two paths between two sorts; so none comes back to where it began
abbrev pub OnePath : List Coercion → Type 0
OnePath cs = (s to : ℕ) (path other : List ℕ) → IsPath cs s path to → IsPath cs s other to → path ≡ other

-- the term of the p-th coercion
abbrev pub coercion_term : List Coercion → ℕ → ℕ
coercion_term cs p = (get_or cs p (record { term = 0; from = 0; to = 0 })).term

-- e under the terms of a path
abbrev pub wrapped : List Coercion → List ℕ → Tree → Tree
wrapped cs [] e = e
wrapped cs (p ∷ path) e = wrapped cs path (app (coercion_term cs p) (more e none))

-- there is a path of at most so many coercions
abbrev pub Reaches : List Coercion → ℕ → ℕ → ℕ → Type 0
Reaches cs many s to = (path : List ℕ) × IsPath cs s path to × (length path ≤ many)
