-- How the code puts operands in the order of their parameters: for each parameter it notes which of the operands is
-- the first one for it, and takes them by these notes.
use Rattle.std.specs.Prelude.{◌≡◌, ◌==◌, ⊤, ℕ, suc, List, [], ◌∷◌, Option, Some, None, option_map, if◌then◌else◌}
use Rattle.mz_logic_theory.specs.Tree.{Tree, Trees, app, none, more, operand}

-- the first of the places that is this one
abbrev pub first_of : List ℕ → ℕ → Option ℕ
first_of [] i = None
first_of (j ∷ js) i = if j == i then Some 0 else option_map suc (first_of js i)

-- what is noted, where a place may be noted before
abbrev pub earlier_or : Option ℕ → ℕ → ℕ
earlier_or None at = at
earlier_or (Some k) at = k

-- the operand that is noted; past the end and where none is, what stands for one that isn't there
abbrev pub picked_one : Trees → Option ℕ → Tree
picked_one es None = app 0 none
picked_one es (Some k) = operand es k

abbrev pub picked : Trees → List (Option ℕ) → Trees
picked es [] = none
picked es (o ∷ os) = more (picked_one es o) (picked es os)

-- what is noted here is noted nowhere behind
abbrev pub Differs : Option ℕ → List (Option ℕ) → Type 0
Differs o [] = ⊤
Differs o (x ∷ xs) = ((k : ℕ) → x ≡ Some k → o ≡ Some k → ⊥) × Differs o xs

abbrev pub AreDistinct : List (Option ℕ) → Type 0
AreDistinct [] = ⊤
AreDistinct (o ∷ os) = Differs o os × AreDistinct os
