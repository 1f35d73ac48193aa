-- Phrases that are added, and the numbers of those that are to stand in one list.
use Rattle.std.specs.Prelude.{◌≡◌, ⊤, ℕ, List, [], ◌∷◌, ◌++◌}
use Rattle.mz_decompile_text.specs.Phrases.{Phrase, Phrases}
use Rattle.mz_decompile_text.specs.Phrasing.{followed_by}
use Rattle.mz_decompile_text.specs.ByNumber.{Grows}
use Rattle.mz_decompile_text.specs.Rows.{IsPhrase}

-- these have these numbers
abbrev pub ArePhrases : List Phrase → List ℕ → List Phrase → Type 0
ArePhrases ps [] [] = ⊤
ArePhrases ps (n ∷ ns) (q ∷ qs) = IsPhrase ps n q × ArePhrases ps ns qs
ArePhrases ps _ _ = ⊥

-- more phrases are there, and more numbers: those of these
pub record Adds (old new : List Phrase) (before after : List ℕ) (qs : List Phrase) : Type 0 where
  pub grows : Grows old new
  pub fresh : List ℕ
  pub numbers : after ≡ before ++ fresh
  pub phrases : ArePhrases new fresh qs

-- of the parts of a list all have numbers but the rest
pub record AreAdded (old new : List Phrase) (numbers : List ℕ) (whole rest : Phrases) : Type 0 where
  pub parts : List Phrase
  pub adds : Adds old new [] numbers parts
  pub all : followed_by parts rest ≡ whole
