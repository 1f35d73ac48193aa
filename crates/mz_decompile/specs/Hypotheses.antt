-- A statement's hypotheses, as phrases.
use Rattle.std.specs.Prelude.{ℕ, suc, [], ◌∷◌}
use Rattle.mz_decompile_text.specs.Phrases.{Phrases, a_word, no_phrases, one_more}
use Rattle.mz_decompile_text.specs.Phrasing.{Vocabulary, list_of}

-- phrases as hypotheses, with their names, the first of them hypothesis i
abbrev pub named : Vocabulary → ℕ → Phrases → Phrases
named v i no_phrases = no_phrases
named v i (one_more p ps) = one_more (list_of (a_word (v.hypothesis i) ∷ p ∷ [])) (named v (suc i) ps)
