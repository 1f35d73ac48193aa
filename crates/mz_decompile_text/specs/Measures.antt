-- How large a phrase is (this project's own measures).
use Rattle.std.specs.Prelude.{ℕ, ◌+◌, ◌-◌, ◌^◌, min}
use Rattle.mz_decompile_text.specs.Phrases.{Phrase, Phrases, a_word, a_list, no_phrases, one_more}

-- a number, or the largest of 128 bits where it is larger
abbrev pub capped : ℕ → ℕ
capped n = min n (2 ^ 128 - 1)

-- how many tokens stand in a phrase
abbrev mutual
  pub word_count : Phrase → ℕ
  word_count (a_word w) = 1
  word_count (a_list ps) = words_of_all ps

  pub words_of_all : Phrases → ℕ
  words_of_all no_phrases = 0
  words_of_all (one_more p ps) = word_count p + words_of_all ps
