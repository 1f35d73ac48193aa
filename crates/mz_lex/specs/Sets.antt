-- A table of bytes that says which bytes are in a list.
use Rattle.std.specs.Prelude.{◌↔◌, ℕ, List, Bool, false, IsTrue, Contains, get_or}

abbrev pub Tells : List Bool → List ℕ → Type 0
Tells there bytes = (c : ℕ) → IsTrue (get_or there c false) ↔ Contains bytes c
