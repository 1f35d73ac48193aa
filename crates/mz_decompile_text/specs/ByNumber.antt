-- Phrases by their numbers.
use Rattle.std.specs.Prelude.{ℕ, ◌≡◌, ◌<◌, All, List, [], ◌∷◌, ◌++◌, get_or}
use Rattle.mz_decompile_text.specs.Phrases.{Phrase, Phrases, a_word, a_list, no_phrases, one_more}
use Rattle.mz_decompile_text.specs.declared.phrases.Shape.{Shape}
use Rattle.mz_decompile_text.specs.declared.phrases.Shape.TheVariants.{Word, Parts}

-- the phrase with this number; past the end, where no call looks, a token without bytes
abbrev pub phrase_at : List Phrase → ℕ → Phrase
phrase_at ps n = get_or ps n (a_word [])

-- those with these numbers
abbrev pub phrases_at : List Phrase → List ℕ → Phrases
phrases_at ps [] = no_phrases
phrases_at ps (n ∷ ns) = one_more (phrase_at ps n) (phrases_at ps ns)

-- the phrase is this token, or a list of these, whose numbers are lower
abbrev pub IsShape : List Phrase → ℕ → Shape → Type 0
IsShape ps n (Word w) = phrase_at ps n ≡ a_word w.now
IsShape ps n (Parts ns) = All (λ m. m < n) ns.now × (phrase_at ps n ≡ a_list (phrases_at ps ns.now))

-- the second are the first, and others behind them
abbrev pub Grows : List Phrase → List Phrase → Type 0
Grows ps qs = (others : List Phrase) × (qs ≡ ps ++ others)
