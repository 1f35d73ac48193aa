-- Paths that have been found.
use Rattle.std.specs.Prelude.{◌≡◌, ◌≤◌, ℕ, List, All, length, map}
use Rattle.mz_math_theory.specs.declared.coercion.Coercion.{Coercion}
use Rattle.mz_math_theory.specs.Coercions.{IsPath, coercion_term}
use Rattle.mz_math_coercions.specs.declared.paths.Paths.{Paths}

-- these are the terms of a path from a sort to another, of at most as many coercions as there are
abbrev pub AreTermsOf : List Coercion → ℕ → ℕ → List ℕ → Type 0
AreTermsOf cs from to ts = (path : List ℕ) × IsPath cs from path to × (ts ≡ map (coercion_term cs) path) × (length path ≤ length cs)

-- the terms that are kept for two sorts are those of a path between them
abbrev pub AreFound : List Coercion → Paths → Type 0
AreFound cs ps = All (λ f. AreTermsOf cs f.from f.to f.terms) ps.found.items
