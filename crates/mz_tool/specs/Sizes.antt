-- How an argument that says a number begins (this project's own).
use Rattle.std.specs.Prelude.{◌≤◌, ◌<◌, ℕ, List, length, get_or}

-- with a digit other than 0
abbrev pub BeginsNumber : List ℕ → Type 0
BeginsNumber word = (0 < length word) × (48 < get_or word 0 0) × (get_or word 0 0 ≤ 57)
