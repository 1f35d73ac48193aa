-- The name of a declaration, as the specification's text has it (mm0.md: sorts, terms and assertions are declared by
-- name and known by it from then on).
use Rattle.std.specs.Prelude.{ℕ, List, [], slice_get, slice_range, Option, Some, None}
use Rattle.mz_spec_theory.specs.State.{Entry}

abbrev pub name_in : List ℕ → Option Entry → List ℕ
name_in text None = []
name_in text (Some e) = slice_range text e.from e.to

-- the name of the k-th declaration, as the text has it
abbrev pub name_at : List ℕ → List Entry → ℕ → List ℕ
name_at text entries k = name_in text (slice_get entries k)
