-- What is kept about the names of variables, so that one is found without going through all.
use Rattle.std.specs.Prelude.{◌≡◌, ◌<◌, ◌++◌, ℕ, List, [], ◌∷◌, Option, Some, None, length, slice_get, MatchOption}
use Rattle.mz_lex.specs.Lexemes.{Lexeme}
use Rattle.mz_lex.specs.Places.{place_of}
use Rattle.mz_spec_theory.specs.Dependencies.{IsCalled}
use Rattle.mz_spec_theory.specs.View.{Variable}

abbrev pub all_found : Option ℕ → List ℕ
all_found None = []
all_found (Some k) = k ∷ []

-- the k-th of the variables has this name
abbrev pub IsNamedAt : List Variable → List ℕ → ℕ → Type 0
IsNamedAt vs t k = (v : Variable) × (slice_get vs k ≡ Some v) × IsCalled v.name t

-- the places lead to each of the first n variables by its name, which no two of them share
pub record IsIndexUpTo (n : ℕ) (vs : List Variable) (places : List (List ℕ × ℕ)) : Type 0 where
  pub leads : (t : List ℕ) → MatchOption (place_of places t) ((k : ℕ) → k < n → IsNamedAt vs t k → ⊥) (λ k. (k < n) × IsNamedAt vs t k)
  pub distinct : (t : List ℕ) (j k : ℕ) → j < n → k < n → IsNamedAt vs t j → IsNamedAt vs t k → j ≡ k

abbrev pub IsIndexOf : List Variable → List (List ℕ × ℕ) → Type 0
IsIndexOf vs places = IsIndexUpTo (length vs) vs places

-- the places of those names that have one, in order
abbrev pub found_in : List (List ℕ × ℕ) → List Lexeme → List ℕ
found_in places [] = []
found_in places (d ∷ ds) = all_found (place_of places d.text) ++ found_in places ds
