-- What a comparison of two expressions answers.
use Rattle.std.specs.Prelude.{◌≡◌, ℕ, List, Option, Some, None, MatchOption}
use Rattle.mz_match_rows.specs.declared.stream.Cursor.{Cursor}

-- what a comparison answers: the place behind where they are the same, and then these are the pairs
abbrev pub Answers : Option Cursor → List (Option ℕ) → Option (List (Option ℕ)) → Cursor → Type 0
Answers result pairs is to = MatchOption result (is ≡ None) (λ c. (is ≡ Some pairs) × (c ≡ to))
