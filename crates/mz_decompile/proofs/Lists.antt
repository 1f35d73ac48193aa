-- What words say, one after another.
use Rattle.std.proofs.Common.{◌≡◌, ◌∙◌, ◌<◌, ◌≤◌, ◌+◌, ◌++◌, ℕ, suc, Bool, true, false, List, [], ◌∷◌, length, drop, get_or, refl, sym, ap, arith}
use Rattle.std.proofs.lemmas.List.{get_or_default, drop_all, map-append}
use Rattle.std.specs.Prelude.{◌==◌, ◌/◌, ◌%◌, codes, if◌then◌else◌, map}
use Rattle.mz_base.proofs.Offered.{drop-item}
use Rattle.mz_logic_theory.specs.declared.word.Word.{Word}
use Rattle.mz_logic_theory.specs.Words.{word_bound, word_deps, word_sort, places_set, binder_of, binders_from}
use Rattle.mz_machine_theory.specs.Spells.{dummy_of}
use Rattle.mz_decompile_text.specs.Phrases.{Phrase, Phrases, a_word, no_phrases, one_more}
use Rattle.mz_decompile_text.specs.Phrasing.{Vocabulary, list_of, followed_by, word_list, variable_names, binder, binders, marked_parts}
use Rattle.mz_decompile_text.specs.ByNumber.{phrase_at, phrases_at}
use Rattle.mz_decompile.specs.Hypotheses.{named}

-- the number at hand
here-at : (xs : List ℕ) (i : ℕ) → i < length xs → drop i xs ≡ get_or xs i 0 ∷ drop (i + 1) xs
here-at xs i within = drop-item xs i (get_or xs i 0) within (get_or_default xs i 0 (get_or xs i 0) within)

module _ (v : Vocabulary) where
  -- ---- dependencies

  abbrev pub deps-from : ℕ → List ℕ → Phrases
  deps-from bits places = word_list (map v.variable (places_set bits places))

  deps-by : (b : Bool) (bits p : ℕ) (ps : List ℕ)
      → word_list (map v.variable (if b then p ∷ places_set (bits / 2) ps else places_set (bits / 2) ps))
      ≡ followed_by (if b then a_word (v.variable p) ∷ [] else []) (deps-from (bits / 2) ps)
  deps-by true bits p ps = refl
  deps-by false bits p ps = refl

  pub deps-step : (bits : ℕ) (places : List ℕ) (k : ℕ) → k < length places
      → deps-from bits (drop k places) ≡ followed_by (if (bits % 2 == 1) then a_word (v.variable (get_or places k 0)) ∷ [] else []) (deps-from (bits / 2) (drop (k + 1) places))
  deps-step bits places k within = ap (deps-from bits) (here-at places k within) ∙ deps-by (bits % 2 == 1) bits (get_or places k 0) (drop (k + 1) places)

  pub deps-end : (bits : ℕ) (places : List ℕ) (k : ℕ) → length places ≤ k → deps-from bits (drop k places) ≡ no_phrases
  deps-end bits places k past = ap (deps-from bits) (drop_all k places past)

  -- ---- one binder

  binder-by : (b : Bool) (x y : Phrase) (ds : List ℕ) → list_of (x ∷ y ∷ (if b then [] else variable_names v ds ∷ []))
      ≡ (if b then list_of (x ∷ y ∷ []) else list_of (x ∷ y ∷ variable_names v (if b then [] else ds) ∷ []))
  binder-by true x y ds = refl
  binder-by false x y ds = refl

  pub binder-is : (x : ℕ) (w : Word) (places : List ℕ)
      → list_of (a_word (v.variable x) ∷ a_word (v.sort (word_sort w)) ∷ (if word_bound w then [] else variable_names v (places_set (word_deps w) places) ∷ []))
      ≡ binder v x (binder_of places w)
  binder-is x w places = binder-by (word_bound w) (a_word (v.variable x)) (a_word (v.sort (word_sort w))) (places_set (word_deps w) places)

  -- ---- parameters

  abbrev pub places_after : Bool → List ℕ → ℕ → List ℕ
  places_after b places i = if b then places ++ i ∷ [] else places

  abbrev pub params-from : ℕ → List ℕ → List Word → Phrases
  params-from i places ws = binders v i (binders_from i places (drop i ws))

  pub params-step : (i : ℕ) (places later : List ℕ) (ws : List Word) (w : Word) → i < length ws → w ≡ get_or ws i w → later ≡ places_after (word_bound w) places i
      → params-from i places ws ≡ followed_by (binder v i (binder_of places w) ∷ []) (params-from (i + 1) later ws)
  params-step i places later ws w within is are =
      let on : suc i ≡ i + 1 = omega arith in
      ap (λ xs. binders v i (binders_from i places xs)) (drop-item ws i w within is)
      ∙ ap (λ n. one_more (binder v i (binder_of places w)) (binders v n (binders_from n (places_after (word_bound w) places i) (drop (i + 1) ws)))) on
      ∙ ap (λ ps. one_more (binder v i (binder_of places w)) (binders v (i + 1) (binders_from (i + 1) ps (drop (i + 1) ws)))) (sym are)

  pub params-end : (i : ℕ) (places : List ℕ) (ws : List Word) → length ws ≤ i → params-from i places ws ≡ no_phrases
  params-end i places ws past = ap (λ xs. binders v i (binders_from i places xs)) (drop_all i ws past)

  -- ---- dummies

  pub dummies-step : (n : ℕ) (sorts : List ℕ) (k : ℕ) → k < length sorts
      → binders v (n + k) (map dummy_of (drop k sorts)) ≡ followed_by (binder v (n + k) (dummy_of (get_or sorts k 0)) ∷ []) (binders v (n + (k + 1)) (map dummy_of (drop (k + 1) sorts)))
  dummies-step n sorts k within =
      let on : suc (n + k) ≡ n + (k + 1) = omega arith in
      ap (λ xs. binders v (n + k) (map dummy_of xs)) (here-at sorts k within)
      ∙ ap (λ x. one_more (binder v (n + k) (dummy_of (get_or sorts k 0))) (binders v x (map dummy_of (drop (k + 1) sorts)))) on

  pub dummies-first : (n : ℕ) (sorts : List ℕ) → binders v (n + 0) (map dummy_of sorts) ≡ binders v n (map dummy_of sorts)
  dummies-first n sorts = let same : n + 0 ≡ n = omega arith in ap (λ x. binders v x (map dummy_of sorts)) same

  pub dummies-end : (x : ℕ) (sorts : List ℕ) (k : ℕ) → length sorts ≤ k → binders v x (map dummy_of (drop k sorts)) ≡ no_phrases
  dummies-end x sorts k past = ap (λ xs. binders v x (map dummy_of xs)) (drop_all k sorts past)

  -- ---- hypotheses

  pub named-step : (ps : List Phrase) (hyps : List ℕ) (i : ℕ) → i < length hyps
      → named v i (phrases_at ps (drop i hyps))
      ≡ followed_by (list_of (a_word (v.hypothesis i) ∷ phrase_at ps (get_or hyps i 0) ∷ []) ∷ []) (named v (i + 1) (phrases_at ps (drop (i + 1) hyps)))
  named-step ps hyps i within =
      let on : suc i ≡ i + 1 = omega arith in
      ap (λ xs. named v i (phrases_at ps xs)) (here-at hyps i within)
      ∙ ap (λ n. one_more (list_of (a_word (v.hypothesis i) ∷ phrase_at ps (get_or hyps i 0) ∷ [])) (named v n (phrases_at ps (drop (i + 1) hyps)))) on

  pub named-end : (ps : List Phrase) (hyps : List ℕ) (i : ℕ) → length hyps ≤ i → named v i (phrases_at ps (drop i hyps)) ≡ no_phrases
  named-end ps hyps i past = ap (λ xs. named v i (phrases_at ps xs)) (drop_all i hyps past)

-- ---- modifiers

abbrev pub word-if : Bool → List ℕ → List Phrase
word-if b w = if b then a_word w ∷ [] else []

words-if : (b : Bool) (w : List ℕ) → map a_word (if b then w ∷ [] else []) ≡ word-if b w
words-if true w = refl
words-if false w = refl

pub four-words : (b c d e : Bool) (w x y z : List ℕ)
    → map a_word ((if b then w ∷ [] else []) ++ (if c then x ∷ [] else []) ++ (if d then y ∷ [] else []) ++ (if e then z ∷ [] else []))
    ≡ word-if b w ++ word-if c x ++ word-if d y ++ word-if e z
four-words b c d e w x y z =
    let p = if b then w ∷ [] else [] in let q = if c then x ∷ [] else [] in let r = if d then y ∷ [] else [] in let s = if e then z ∷ [] else [] in
    map-append a_word (p ++ q ++ r) s
    ∙ ap (λ t. t ++ map a_word s) (map-append a_word (p ++ q) r ∙ ap (λ t. t ++ map a_word r) (map-append a_word p q))
    ∙ ap (λ t. t ++ map a_word q ++ map a_word r ++ map a_word s) (words-if b w)
    ∙ ap (λ t. word-if b w ++ t ++ map a_word r ++ map a_word s) (words-if c x)
    ∙ ap (λ t. word-if b w ++ word-if c x ++ t ++ map a_word s) (words-if d y)
    ∙ ap (λ t. word-if b w ++ word-if c x ++ word-if d y ++ t) (words-if e z)

-- ---- visibility

pub marked-is : (b : Bool) (ps : List Phrase) → (if b then a_word (codes "local") ∷ [] else []) ++ ps ≡ marked_parts b ps
marked-is true ps = refl
marked-is false ps = refl
