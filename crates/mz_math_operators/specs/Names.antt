-- Names of terms by their bytes.
use Rattle.std.specs.Prelude.{◌≡◌, ℕ, List, Contains, map}
use Rattle.mz_math_theory.specs.Notation.{TermName}

-- it is there, has the name, and nothing else has
abbrev pub IsFoundAs : List TermName → List ℕ → TermName → Type 0
IsFoundAs names w n = Contains names n × (n.name ≡ w) × ((m : TermName) → Contains names m → m.name ≡ w → m ≡ n)

-- no two have one name
abbrev pub AreOnce : List TermName → Type 0
AreOnce names = (a b : TermName) → Contains names a → Contains names b → a.name ≡ b.name → a ≡ b

-- ---- the entries of a map, whose keys are the names

abbrev pub name_with : List ℕ → ℕ → TermName
name_with w t = record { name = w; term = t }

abbrev pub all_named : {K : Type 0} → (K → List ℕ) → List (K × ℕ) → List TermName
all_named f es = map (λ e. name_with (f e.0) e.1) es
