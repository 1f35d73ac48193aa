-- What is printed of the theorems that rest on a gap (this project's own).
use Rattle.std.specs.Prelude.{◌≡◌, ◌++◌, ℕ, List, length, codes, decimal, flat_map}
use Rattle.mz_spec_theory.specs.State.{Entry}
use Rattle.mz_spec_theory.specs.Spec.{SpecMakes}
use Rattle.mz_spec_theory.specs.Names.{name_at}

-- how many of the theorems do
abbrev pub count_line : (gaps theorems : ℕ) → List ℕ
count_line gaps theorems = codes "draft: " ++ decimal gaps ++ codes " of " ++ decimal theorems ++ codes " theorems rest on a gap\n"

-- the name of one, by the place of its declaration
abbrev pub gap_line : List ℕ → List Entry → ℕ → List ℕ
gap_line text entries place = codes "gap " ++ name_at text entries place ++ codes "\n"

-- a line for each
abbrev pub gap_lines : List ℕ → List Entry → List ℕ → List ℕ
gap_lines text entries places = flat_map (gap_line text entries) places

-- the text of a specification's gapped theorems, which has so many theorems
abbrev pub IsGapsTextOf : List ℕ → ℕ → List ℕ → List ℕ → Type 0
IsGapsTextOf text theorems places lines = (entries : List Entry) × SpecMakes text entries × (lines ≡ count_line (length places) theorems ++ gap_lines text entries places)
