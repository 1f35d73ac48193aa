-- What stays where more is written.
use Rattle.std.specs.Prelude.{ℕ, ◌≡◌, List, ◌++◌}

-- the second begins with the first
abbrev pub StaysIn : List ℕ → List ℕ → Type 0
StaysIn xs ys = (rest : List ℕ) × (ys ≡ xs ++ rest)
