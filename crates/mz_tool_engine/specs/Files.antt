-- What stands in a folder, as it is asked of the files that a command reads (this project's own).
use Rattle.std.specs.Prelude.{◌≡◌, ◌≤◌, ⊤, ℕ, List, [], ◌∷◌, length, Some, Any}
use Rattle.mz_io.specs.Read.{IsLonger}
use Rattle.mz_tool_engine.specs.Said.{Files}
use Rattle.mz_tool_engine.specs.Run.{longest}

-- a file of this name is there, and no longer than any that is read
abbrev pub IsReadable : Files → List ℕ → Type 0
IsReadable file name = (bytes : List ℕ) × (file name ≡ Some bytes) × (length bytes ≤ longest)

abbrev pub AreReadable : Files → List (List ℕ) → Type 0
AreReadable file [] = ⊤
AreReadable file (name ∷ names) = IsReadable file name × AreReadable file names

-- each of the files is there
abbrev pub AreThere : Files → List (List ℕ) → Type 0
AreThere file [] = ⊤
AreThere file (name ∷ names) = ((bytes : List ℕ) × (file name ≡ Some bytes)) × AreThere file names

-- one of the files is there, and longer than the limit
abbrev pub HasLonger : ℕ → Files → List (List ℕ) → Type 0
HasLonger limit file names = Any (λ name. IsLonger limit (file name)) names

-- the first of the files is there, and longer than the limit
abbrev pub BeginsLonger : ℕ → Files → List (List ℕ) → Type 0
BeginsLonger limit file [] = ⊥
BeginsLonger limit file (name ∷ names) = IsLonger limit (file name)
