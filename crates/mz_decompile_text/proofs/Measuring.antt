-- The measures of a list, part by part.
use Rattle.std.proofs.Common.{◌≡◌, ◌∙◌, ℕ, ◌+◌, ◌<◌, ◌^◌, List, [], ◌∷◌, ◌++◌, length, codes, ap, refl, arith}
use Rattle.std.proofs.lemmas.List.{length-append}
use Rattle.mz_decompile_text.specs.Measures.{capped}
use Rattle.mz_decompile_text.specs.ByNumber.{phrase_at, phrases_at}
use Rattle.mz_decompile_text.specs.Phrases.{Phrase, Phrases, a_list, one_more, no_phrases, written, all_written}

-- each part with what stands behind it
abbrev pub spaced : Phrases → ℕ
spaced no_phrases = 0
spaced (one_more p ps) = length (written p) + 1 + spaced ps

all-spaced : (p : Phrase) (ps : Phrases) → length (all_written (one_more p ps)) + 1 ≡ spaced (one_more p ps)
all-spaced p no_phrases = omega arith
all-spaced p (one_more q qs) =
    omega (arith, all-spaced q qs, length-append (written p) (codes " " ++ all_written (one_more q qs)), length-append (codes " ") (all_written (one_more q qs)))

text-length : (ps : Phrases) → length (written (a_list ps)) ≡ length (all_written ps) + 2
text-length ps = omega (arith, length-append (codes "(") (all_written ps ++ codes ")"), length-append (all_written ps) (codes ")"))

some-length : (p : Phrase) (ps : Phrases) → 1 + spaced (one_more p ps) ≡ length (written (a_list (one_more p ps)))
some-length p ps = let all = all-spaced p ps in let text = text-length (one_more p ps) in omega (arith, all, text)

-- the opening bracket, and the closing one where nothing stands before it
pub empty-begun : (ps : List Phrase) (is : List ℕ) (len : ℕ) → length is ≡ 0 → len ≡ 2
    → (capped (len + spaced (phrases_at ps is)) ≡ capped (length (written (a_list (phrases_at ps is))))) × (len < 2 ^ 128)
empty-begun ps [] len none two = (ap (λ n. capped (n + 0)) two ∙ refl, omega arith)
empty-begun ps (i ∷ is) len none two = absurd (omega arith)

pub full-begun : (ps : List Phrase) (is : List ℕ) (len : ℕ) → (length is ≡ 0 → ⊥) → len ≡ 1
    → (capped (len + spaced (phrases_at ps is)) ≡ capped (length (written (a_list (phrases_at ps is))))) × (len < 2 ^ 128)
full-begun ps [] len some one = absurd (some refl)
full-begun ps (i ∷ is) len some one = (
  ap (λ n. capped (n + spaced (phrases_at ps (i ∷ is)))) one ∙ ap capped (some-length (phrase_at ps i) (phrases_at ps is)),
  omega arith,
)
