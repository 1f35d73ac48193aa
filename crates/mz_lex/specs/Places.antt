-- Places by keys, and lists whose items are found by keys.
use Rattle.std.specs.Prelude.{◌≡◌, ℕ, List, [], ◌∷◌, Option, Some, None, slice_get, bytes_eq, if◌then◌else◌}

-- the place of a key
abbrev pub place_of : {P : Type 0} → List (List ℕ × P) → List ℕ → Option P
place_of [] w = None
place_of (p ∷ ps) w = if bytes_eq w p.0 then Some p.1 else place_of ps w

-- each key of an item has the item's place
abbrev pub LeadsTo : {X : Type 0} → (X → List ℕ → Type 0) → List (List ℕ × ℕ) → List X → Type 0
LeadsTo {X} HasWord ps xs = (i : ℕ) (x : X) (w : List ℕ) → slice_get xs i ≡ Some x → HasWord x w → place_of ps w ≡ Some i
