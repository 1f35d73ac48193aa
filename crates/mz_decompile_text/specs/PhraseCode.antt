-- How phrases are stored as data: as tokens in preorder.
use Rattle.std.specs.Prelude.{ℕ, zero, suc, ◌≡◌, List, [], ◌∷◌, refl}
use Rattle.std.specs.Coded.{Coded, code_by, coded×, coded_ℕ, coded_list}
use Rattle.std.proofs.Common.{ap, ◌∙◌}
use Rattle.mz_decompile_text.specs.Phrases.{Phrase, Phrases, a_word, a_list, no_phrases, one_more}

abbrev mutual
  pub put_phrase : Phrase → List (ℕ × List ℕ) → List (ℕ × List ℕ)
  put_phrase (a_word w) k = (0, w) ∷ k
  put_phrase (a_list ps) k = (1, []) ∷ put_phrases ps k

  pub put_phrases : Phrases → List (ℕ × List ℕ) → List (ℕ × List ℕ)
  put_phrases no_phrases k = (2, []) ∷ k
  put_phrases (one_more p ps) k = (3, []) ∷ put_phrase p (put_phrases ps k)

abbrev pub head_onto : Phrases → Phrases → Phrases
head_onto no_phrases ps = ps
head_onto (one_more p _) ps = one_more p ps

abbrev pub join_two : List Phrases → List Phrases
join_two (a ∷ b ∷ rest) = head_onto a b ∷ rest
join_two _ = []

abbrev pub list_top : List Phrases → List Phrases
list_top (ps ∷ rest) = one_more (a_list ps) no_phrases ∷ rest
list_top _ = []

abbrev pub take_token : ℕ → List ℕ → List Phrases → List Phrases
take_token zero w stack = one_more (a_word w) no_phrases ∷ stack
take_token (suc zero) w stack = list_top stack
take_token (suc (suc zero)) w stack = no_phrases ∷ stack
take_token (suc (suc (suc _))) w stack = join_two stack

abbrev pub read_tokens : List (ℕ × List ℕ) → List Phrases
read_tokens [] = []
read_tokens (x ∷ xs) = take_token x.0 x.1 (read_tokens xs)

mutual
  pub read_put_phrase : (p : Phrase) (k : List (ℕ × List ℕ)) → read_tokens (put_phrase p k) ≡ one_more p no_phrases ∷ read_tokens k
  read_put_phrase (a_word w) k = refl
  read_put_phrase (a_list ps) k = ap list_top (read_put_phrases ps k)

  pub read_put_phrases : (ps : Phrases) (k : List (ℕ × List ℕ)) → read_tokens (put_phrases ps k) ≡ ps ∷ read_tokens k
  read_put_phrases no_phrases k = refl
  read_put_phrases (one_more p ps) k =
      ap join_two (read_put_phrase p (put_phrases ps k) ∙ ap (λ s. one_more p no_phrases ∷ s) (read_put_phrases ps k))

abbrev pub head_phrases : List Phrases → Phrases
head_phrases [] = no_phrases
head_phrases (ps ∷ _) = ps

abbrev pub phrases_code : Coded Phrases
phrases_code =
    code_by (List (ℕ × List ℕ)) (coded_list (coded× coded_ℕ (coded_list coded_ℕ))) (λ ps. put_phrases ps []) (λ k. head_phrases (read_tokens k)) (λ ps. ap head_phrases (read_put_phrases ps []))

abbrev pub first_phrase : Phrases → Phrase
first_phrase no_phrases = a_word []
first_phrase (one_more p ps) = p

abbrev pub phrase_code : Coded Phrase
phrase_code = code_by Phrases phrases_code (λ p. one_more p no_phrases) first_phrase (λ _. refl)
