-- Numbers of phrases.
use Rattle.std.specs.Prelude.{◌≡◌, ◌<◌, ⊤, ℕ, List, [], ◌∷◌, length, Some, slice_get}
use Rattle.mz_logic_theory.specs.Tree.{var}
use Rattle.mz_decompile_text.specs.Phrases.{Phrase}
use Rattle.mz_decompile_text.specs.Phrasing.{Vocabulary, expression}

-- those with these numbers are there, and are these
abbrev pub AreAt : List Phrase → List ℕ → List Phrase → Type 0
AreAt ps [] [] = ⊤
AreAt ps (n ∷ ns) (q ∷ qs) = (slice_get ps n ≡ Some q) × AreAt ps ns qs
AreAt ps _ _ = ⊥

-- they are those of the first variables
pub record AreVariables (v : Vocabulary) (ps : List Phrase) (ns : List ℕ) (count : ℕ) : Type 0 where
  pub many : length ns ≡ count
  pub each : (i : ℕ) → i < count → (k : ℕ) × (slice_get ns i ≡ Some k) × (slice_get ps k ≡ Some (expression v (var i)))
