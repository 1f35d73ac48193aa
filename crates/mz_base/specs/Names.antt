-- The numbers of names (mm0.md: sorts, terms and assertions are declared by name and known by it from then on; that
-- each of the three has a space of names, and a number in it, is this project's own).
use Rattle.std.specs.Prelude.{◌≡◌, ℕ, suc, List, [], ◌∷◌, Option, Some, None, option_map, if◌then◌else◌, bytes_eq}

-- the number of a name among names: the place of the first that is the same, if there is one
abbrev pub number_of : List (List ℕ) → List ℕ → Option ℕ
number_of [] name = None
number_of (other ∷ names) name = if bytes_eq name other then Some 0 else option_map suc (number_of names name)

-- it is none of them
abbrev pub IsNew : List (List ℕ) → List ℕ → Type 0
IsNew names name = number_of names name ≡ None

-- it is one of them
abbrev pub IsKnown : List (List ℕ) → List ℕ → Type 0
IsKnown names name = (n : ℕ) × (number_of names name ≡ Some n)
