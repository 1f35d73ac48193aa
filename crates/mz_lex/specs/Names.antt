-- Names of variables by their bytes.
use Rattle.std.specs.Prelude.{◌≡◌, ◌≢◌, ◌<◌, ℕ, List, [], Some, length, slice_get}
use Rattle.mz_lex.specs.Places.{place_of}

-- each name stands once, and beyond so many each has its place among the keys; the empty name is no variable's
abbrev pub AreFoundBeyond : ℕ → List (List ℕ × ℕ) → List (List ℕ) → Type 0
AreFoundBeyond few ps names = (i : ℕ) (w : List ℕ) → slice_get names i ≡ Some w → w ≢ [] → ((j : ℕ) → slice_get names j ≡ Some w → j ≡ i) × (few < length names → place_of ps w ≡ Some i)
