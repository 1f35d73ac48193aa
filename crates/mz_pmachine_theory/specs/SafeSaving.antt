-- Patterns that save no application before its dummies are met (this project's own; marks are what a stream refers to, of
-- the .mmb format).
use Rattle.std.specs.Prelude.{◌≡◌, ℕ, ◌<◌, List, slice_get, Some}
use Rattle.mz_logic_theory.specs.Tree.{Tree, Trees, var, app}
use Rattle.mz_logic_theory.specs.Variables.{Occurs}

-- the variables of each application that is marked are marked before it
abbrev pub AreWhole : List Tree → Type 0
AreWhole marks = (j t y : ℕ) (es : Trees) → slice_get marks j ≡ Some (app t es) → Occurs y (app t es) → (i : ℕ) × (i < j) × (slice_get marks i ≡ Some (var y))
