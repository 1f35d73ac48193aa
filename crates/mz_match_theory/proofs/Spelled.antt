-- What a row's words say, word by word.
use Rattle.std.proofs.Common.{◌≡◌, ◌∙◌, ◌<◌, ◌≤◌, ◌+◌, ◌++◌, ℕ, zero, suc, Bool, true, false, List, [], ◌∷◌, length, drop, get_or, refl, sym, ap, ap₂, arith, append_assoc, length-append}
use Rattle.std.specs.Prelude.{◌↔◌, ◌==◌, ◌/◌, ◌%◌, if◌then◌else◌}
use Rattle.std.proofs.lemmas.List.{drop_all, append-nil, get_or_default}
use Rattle.std.proofs.lemmas.Bool.{eq-eqb, ne_eqb}
use Rattle.mz_base.proofs.Offered.{drop-item}
use Rattle.mz_logic_theory.specs.declared.binder.Binder.{Binder}
use Rattle.mz_logic_theory.specs.declared.word.Word.{Word}
use Rattle.mz_logic_theory.specs.Words.{word_bound, bound_places, places_set, binder_of, binders_from}
use Rattle.mz_layout_tables.specs.RowWords.{bound_count}
use Rattle.mz_layout_tables.proofs.Offered.{bound-many}

same-head : {X : Type 0} → (x y : X) (xs ys : List X) → x ∷ xs ≡ y ∷ ys → x ≡ y
same-head x y xs ys e = cc

same-tail : {X : Type 0} → (x y : X) (xs ys : List X) → x ∷ xs ≡ y ∷ ys → xs ≡ ys
same-tail x y xs ys e = cc

-- ---- dependencies

abbrev places_by : Bool → ℕ → ℕ → List ℕ → List ℕ
places_by b bits p ps = if b then p ∷ places_set (bits / 2) ps else places_set (bits / 2) ps

module _ (deps places : List ℕ) (W : Type 0) (k found bits : ℕ) where
  -- what is left of both decides the whole
  abbrev pub AreLeft : Type 0
  AreLeft = (drop found deps ≡ places_set bits (drop k places)) ↔ W

  at-place : (b : Bool) → k < length places → (bits % 2 == 1) ≡ b → places_set bits (drop k places) ≡ places_by b bits (get_or places k 0) (drop (k + 1) places)
  at-place b within bit =
      ap (places_set bits) (drop-item places k (get_or places k 0) within (get_or_default places k 0 (get_or places k 0) within))
      ∙ ap (λ c. places_by c bits (get_or places k 0) (drop (k + 1) places)) bit

  at-dep : found < length deps → drop found deps ≡ get_or deps found 0 ∷ drop (found + 1) deps
  at-dep there = drop-item deps found (get_or deps found 0) there (get_or_default deps found 0 (get_or deps found 0) there)

  pub deps-skip : k < length places → (bits % 2 ≡ 1 → ⊥) → AreLeft → (drop found deps ≡ places_set (bits / 2) (drop (k + 1) places)) ↔ W
  deps-skip within bit (to, from) =
      let at = at-place false within (ne_eqb (bits % 2) 1 bit) in
      (λ e. to (e ∙ sym at), λ w. from w ∙ at)

  pub deps-step : k < length places → bits % 2 ≡ 1 → found < length deps → get_or deps found 0 ≡ get_or places k 0 → AreLeft
      → (drop (found + 1) deps ≡ places_set (bits / 2) (drop (k + 1) places)) ↔ W
  deps-step within bit there same (to, from) =
      let at = at-place true within (eq-eqb (bits % 2) 1 bit) in
      let left = at-dep there in
      (λ e. to (left ∙ ap₂ ◌∷◌ same e ∙ sym at), λ w. same-tail (get_or deps found 0) (get_or places k 0) (drop (found + 1) deps) (places_set (bits / 2) (drop (k + 1) places)) (sym left ∙ from w ∙ at))

  pub deps-short : k < length places → bits % 2 ≡ 1 → length deps ≤ found → AreLeft → W → ⊥
  deps-short within bit past (to, from) w =
      let none : [] ≡ get_or places k 0 ∷ places_set (bits / 2) (drop (k + 1) places) = sym (drop_all found deps past) ∙ from w ∙ at-place true within (eq-eqb (bits % 2) 1 bit) in cc

  pub deps-differ : k < length places → bits % 2 ≡ 1 → found < length deps → (get_or deps found 0 ≡ get_or places k 0 → ⊥) → AreLeft → W → ⊥
  deps-differ within bit there other (to, from) w =
      other (same-head (get_or deps found 0) (get_or places k 0) (drop (found + 1) deps) (places_set (bits / 2) (drop (k + 1) places)) (sym (at-dep there) ∙ from w ∙ at-place true within (eq-eqb (bits % 2) 1 bit)))

  no-places : length places ≤ k → places_set bits (drop k places) ≡ []
  no-places past = ap (places_set bits) (drop_all k places past)

  pub deps-end : length places ≤ k → found ≤ length deps → AreLeft → (length deps ≤ found) ↔ W
  deps-end past within (to, from) = (λ e. to (drop_all found deps e ∙ sym (no-places past)), λ w. short (drop found deps) found deps refl (from w ∙ no-places past))
    where
      short : (rest : List ℕ) (n : ℕ) (xs : List ℕ) → drop n xs ≡ rest → drop n xs ≡ [] → length xs ≤ n
      short rest n [] e none = omega arith
      short rest zero (x ∷ xs) e none = absurd cc
      short rest (suc n) (x ∷ xs) e none = omega (arith, short (drop n xs) n xs refl none)

-- ---- parameters

abbrev pub places_after : Bool → List ℕ → ℕ → List ℕ
places_after b places i = if b then places ++ i ∷ [] else places

module _ (params : List Binder) (ws : List Word) (W : Type 0) (i : ℕ) (places : List ℕ) where
  -- what is left of both decides the whole
  abbrev pub ParamsLeft : Type 0
  ParamsLeft = (drop i params ≡ binders_from i places (drop i ws)) ↔ W

  at-word : (w : Word) → i < length ws → w ≡ get_or ws i w → binders_from i places (drop i ws) ≡ binder_of places w ∷ binders_from (i + 1) (places_after (word_bound w) places i) (drop (i + 1) ws)
  at-word w within is =
      let on : suc i ≡ i + 1 = omega arith in
      ap (binders_from i places) (drop-item ws i w within is) ∙ ap (λ n. binder_of places w ∷ binders_from n (places_after (word_bound w) places i) (drop (i + 1) ws)) on

  pub params-step : (w : Word) (d : Binder) (later : List ℕ) → i < length ws → w ≡ get_or ws i w → i < length params → d ≡ get_or params i d → d ≡ binder_of places w
      → later ≡ places_after (word_bound w) places i → ParamsLeft → (drop (i + 1) params ≡ binders_from (i + 1) later (drop (i + 1) ws)) ↔ W
  params-step w d later within is there here same places_are (to, from) =
      let at = at-word w within is ∙ ap (λ ps. binder_of places w ∷ binders_from (i + 1) ps (drop (i + 1) ws)) (sym places_are) in
      let left = drop-item params i d there here in
      (λ e. to (left ∙ ap₂ ◌∷◌ same e ∙ sym at), λ t. same-tail d (binder_of places w) (drop (i + 1) params) (binders_from (i + 1) later (drop (i + 1) ws)) (sym left ∙ from t ∙ at))

  pub params-differ : (w : Word) (d : Binder) → i < length ws → w ≡ get_or ws i w → i < length params → d ≡ get_or params i d → (d ≡ binder_of places w → ⊥) → ParamsLeft → W → ⊥
  params-differ w d within is there here other (to, from) t =
      other (same-head d (binder_of places w) (drop (i + 1) params) (binders_from (i + 1) (places_after (word_bound w) places i) (drop (i + 1) ws)) (sym (drop-item params i d there here) ∙ from t ∙ at-word w within is))

  pub params-end : length params ≤ i → length ws ≤ i → ParamsLeft → W
  params-end past past_words (to, from) = to (drop_all i params past ∙ sym (ap (binders_from i places) (drop_all i ws past_words)))

  abbrev left_by : Bool → List ℕ
  left_by b = if b then i ∷ bound_places (i + 1) (drop (i + 1) ws) else bound_places (i + 1) (drop (i + 1) ws)

  bound-at : (w : Word) → i < length ws → w ≡ get_or ws i w → bound_places i (drop i ws) ≡ left_by (word_bound w)
  bound-at w within is =
      let on : suc i ≡ i + 1 = omega arith in
      ap (bound_places i) (drop-item ws i w within is)
      ∙ ap (λ n. if word_bound w then i ∷ bound_places n (drop (i + 1) ws) else bound_places n (drop (i + 1) ws)) on

  -- the places so far, and those that are left
  pub places-step : (w : Word) (whole : List ℕ) → i < length ws → w ≡ get_or ws i w → places ++ bound_places i (drop i ws) ≡ whole
      → places_after (word_bound w) places i ++ bound_places (i + 1) (drop (i + 1) ws) ≡ whole
  places-step w whole within is so_far = go (word_bound w) ∙ ap (λ xs. places ++ xs) (sym (bound-at w within is)) ∙ so_far
    where
      go : (b : Bool) → places_after b places i ++ bound_places (i + 1) (drop (i + 1) ws) ≡ places ++ left_by b
      go true = append_assoc places (i ∷ []) (bound_places (i + 1) (drop (i + 1) ws))
      go false = refl

  -- before a bound word there is room for its place
  pub places-room : (w : Word) → i < length ws → w ≡ get_or ws i w → places ++ bound_places i (drop i ws) ≡ bound_places 0 ws → word_bound w ≡ true → bound_count ws ≤ 55 → length places < 55
  places-room w within is so_far bound few =
      let more : length (places ++ (i ∷ bound_places (i + 1) (drop (i + 1) ws))) ≡ bound_count ws =
      ap (λ xs. length (places ++ xs)) (sym (bound-at w within is ∙ ap left_by bound)) ∙ ap length so_far ∙ bound-many 0 ws in
      omega (arith, more, length-append places (i ∷ bound_places (i + 1) (drop (i + 1) ws)), few)

  pub places-end : (whole : List ℕ) → length ws ≤ i → places ++ bound_places i (drop i ws) ≡ whole → places ≡ whole
  places-end whole past so_far = sym (append-nil places) ∙ ap (λ xs. places ++ xs) (sym (ap (bound_places i) (drop_all i ws past))) ∙ so_far
