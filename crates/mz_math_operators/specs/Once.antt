-- How the code counts the parameters that are named: a flag is none or one.
use Rattle.std.specs.Prelude.{◌==◌, ℕ, List, Bool, if◌then◌else◌}
use Rattle.std.specs.List.{count_by}
use Rattle.mz_math_theory.specs.Notation.{places}
use Rattle.mz_math_theory.specs.declared.notation.Element.{Element}

-- how often the place of a parameter stands among the elements
abbrev pub times : List Element → ℕ → ℕ
times es i = count_by (λ j. j == i) (places es)

abbrev pub one_if : Bool → ℕ
one_if b = if b then 1 else 0
