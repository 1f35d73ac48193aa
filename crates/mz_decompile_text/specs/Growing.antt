-- Phrases to which more are added.
use Rattle.std.specs.Prelude.{ℕ, ◌≡◌, ◌<◌, All, List, ◌++◌, length, map, get_or}
use Rattle.mz_decompile_text.specs.Phrases.{Phrase}
use Rattle.mz_decompile_text.specs.ByNumber.{Grows, phrase_at}

-- numbers of phrases that are there
abbrev pub AreThere : List Phrase → List ℕ → Type 0
AreThere ps ns = All (λ n. n < length ps) ns

-- the phrases with these numbers, as a list
abbrev pub those_at : List Phrase → List ℕ → List Phrase
those_at ps ns = map (phrase_at ps) ns

-- more were added, and n is the number of this one
pub record Tells (old new : List Phrase) (p : Phrase) (n : ℕ) : Type 0 where
  pub grows : Grows old new
  pub there : n < length new
  pub is : phrase_at new n ≡ p

-- more were added, and to numbers those of these
pub record Adds (old new : List Phrase) (ns ms : List ℕ) (ps : List Phrase) : Type 0 where
  pub grows : Grows old new
  pub there : AreThere new ms
  pub are : those_at new ms ≡ those_at old ns ++ ps

-- the numbers that stand at these places
abbrev pub chosen : List ℕ → List ℕ → List ℕ
chosen ms ns = map (λ n. get_or ms n 0) ns
