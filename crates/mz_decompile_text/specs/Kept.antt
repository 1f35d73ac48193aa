-- What nodes stand for, and what holds between them and their phrases.
use Rattle.std.specs.Prelude.{ℕ, suc, ◌≡◌, ◌<◌, ◌≤◌, ⊤, All, List, [], ◌∷◌, ◌++◌, length, slice_range}
use Rattle.mz_decompile_text.specs.Phrases.{Phrase, a_word, a_list, written, depth}
use Rattle.mz_decompile_text.specs.Measures.{capped, word_count}
use Rattle.mz_decompile_text.specs.ByNumber.{phrases_at}
use Rattle.mz_decompile_text.specs.declared.node.Node.{Node}
use Rattle.mz_decompile_text.specs.declared.node.Form.{Form}
use Rattle.mz_decompile_text.specs.declared.node.Form.TheVariants.{Word, Parts}

-- the phrase of a form, of these bytes, or of those of the numbered parts, over the phrases before it
abbrev pub phrase_with : List ℕ → List ℕ → List Phrase → Form → Phrase
phrase_with bytes parts ps (Word from to) = a_word (slice_range bytes from to)
phrase_with bytes parts ps (Parts from to) = a_list (phrases_at ps (slice_range parts from to))

-- these phrases, and after them those of nodes
abbrev pub grown : List ℕ → List ℕ → List Phrase → List Node → List Phrase
grown bytes parts ps [] = ps
grown bytes parts ps (n ∷ ns) = grown bytes parts (ps ++ phrase_with bytes parts ps n.form ∷ []) ns

abbrev pub phrases_of : List ℕ → List ℕ → List Node → List Phrase
phrases_of bytes parts ns = grown bytes parts [] ns

-- the form stands within the bytes or the parts, and parts are among the first `count` phrases
abbrev pub IsWithin : List ℕ → List ℕ → ℕ → Form → Type 0
IsWithin bytes parts count (Word from to) = (from ≤ to) × (to ≤ length bytes)
IsWithin bytes parts count (Parts from to) = (from ≤ to) × (to ≤ length parts) × All (λ m. m < count) (slice_range parts from to)

-- the measures that are kept are those of the phrase, which is the next of so many
pub record IsMeasured (count : ℕ) (p : Phrase) (n : Node) : Type 0 where
  pub text_len : n.text_len ≡ capped (length (written p))
  pub words : n.words ≡ capped (word_count p)
  pub depth : n.depth ≡ depth p
  pub low : n.depth ≤ suc count

-- each is right over the phrases before it
abbrev pub AreKept : List ℕ → List ℕ → List Phrase → List Node → Type 0
AreKept bytes parts ps [] = ⊤
AreKept bytes parts ps (n ∷ ns) =
    IsWithin bytes parts (length ps) n.form × IsMeasured (length ps) (phrase_with bytes parts ps n.form) n
    × AreKept bytes parts (ps ++ phrase_with bytes parts ps n.form ∷ []) ns
