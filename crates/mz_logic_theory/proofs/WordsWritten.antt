-- Words that are written for parameters and results say them.
use Rattle.std.proofs.Common.{pow-suc, ℕ, zero, suc, ◌≡◌, ◌<◌, ◌≤◌, ◌+◌, ◌*◌, ◌%◌, ◌/◌, ◌==◌, ◌⊎◌, Bool, true, false, cond, eqb, List, [], ◌∷◌, ◌++◌, slice_get, length, Contains, Some, refl, sym, ap, subst, ◌∙◌, inl, inr, arith, append_assoc, length-append, not-suc-le-zero, if◌then◌else◌, eq-eqb}
use Rattle.std.specs.Prelude.{◌^◌, ◌||◌, All, ⊤, get_or}
use Rattle.std.specs.List.{filter}
use Rattle.std.specs.List.Sorted.{IsStrictlyIncreasing}
use Rattle.std.proofs.lemmas.Bool.{eqb-true, eqb-false}
use Rattle.std.proofs.lemmas.Nat.{pow_below}
use Rattle.std.proofs.lemmas.List.Elements.{All-contains, Contains-push, Contains-append_left, Contains-append_cases}
use Rattle.std.proofs.lemmas.List.Sums.{length-filter}
use Rattle.std.proofs.lemmas.List.Kept.{AllPairs-from_increasing}
use Rattle.std.proofs.lemmas.Option.{slice_get_within}
use Rattle.mz_base.proofs.Offered.{contains_none, contains_tail, contains_head, contains_cases}
use Rattle.mz_logic_theory.specs.Variables.{IsBoundAt, is_member}
use Rattle.mz_logic_theory.specs.Words.{word_bound, word_sort, word_deps, places_set, bound_places, binder_of, binders_from}
use Rattle.mz_logic_theory.specs.WordsWritten.{bits_of, word_of, words_from, words_of, bound_from, result_word, CanBeWords, ParamsAreReadBack, ResultsAreReadBack, WordsFit, ResultWordsFit}
use Rattle.mz_logic_theory.specs.declared.binder.Binder.{Binder}
use Rattle.mz_logic_theory.specs.declared.binder.ResultType.{ResultType}
use Rattle.mz_logic_theory.specs.declared.binder.SortMods.{SortMods}
use Rattle.mz_logic_theory.specs.declared.word.Word.{Word}
use Rattle.mz_logic_theory.proofs.Lists.{each_from_all}

-- ---- ascending lists

abbrev pub Rises : List ℕ → Type 0
Rises [] = ⊤
Rises (x ∷ xs) = ((y : ℕ) → Contains xs y → x < y) × Rises xs

rises : (xs : List ℕ) → ((i j : ℕ) (d : ℕ) → i < j → j < length xs → get_or xs i d < get_or xs j d) → Rises xs
rises [] h = tt
rises (x ∷ xs) h = (
  (λ y (k, lt, is). let up : x < get_or xs k y = h 0 (suc k) y (omega arith) (omega arith) in omega (arith, up, is)),
  rises xs λ i j d lt within. h (suc i) (suc j) d (omega arith) (omega arith),
)

pub increasing-rises : (xs : List ℕ) → IsStrictlyIncreasing xs → Rises xs
increasing-rises xs h = rises xs (AllPairs-from_increasing xs h)

-- ---- membership

pub among-true : (x : ℕ) (xs : List ℕ) → Contains xs x → is_member x xs ≡ true
among-true x [] h = absurd (contains_none x h)
among-true x (y ∷ xs) h = go (eqb x y) refl (contains_cases y x xs h) (among-true x xs)
  where
    go : (b : Bool) → eqb x y ≡ b → (y ≡ x) ⊎ Contains xs x → (Contains xs x → is_member x xs ≡ true) → (b || is_member x xs) ≡ true
    go true is either later = refl
    go false is (inl same) later = absurd (eqb-false x y is (sym same))
    go false is (inr rest) later = later rest

among-false : (x : ℕ) (xs : List ℕ) → (Contains xs x → ⊥) → is_member x xs ≡ false
among-false x [] h = refl
among-false x (y ∷ xs) h = go (eqb x y) refl (among-false x xs λ rest. h (contains_tail y x xs rest))
  where
    go : (b : Bool) → eqb x y ≡ b → is_member x xs ≡ false → (b || is_member x xs) ≡ false
    go true is later = absurd (h (subst (Contains (y ∷ xs)) (sym (eqb-true x y is)) (contains_head y xs)))
    go false is later = later

-- ---- the bits

-- those of the places that are among the dependencies
abbrev kept : List ℕ → List ℕ → List ℕ
kept [] deps = []
kept (p ∷ ps) deps = if is_member p deps then p ∷ kept ps deps else kept ps deps

set-kept : (ps deps : List ℕ) → places_set (bits_of ps deps) ps ≡ kept ps deps
set-kept [] deps = refl
set-kept (p ∷ ps) deps = go (is_member p deps) (set-kept ps deps)
  where
    go : (b : Bool) → places_set (bits_of ps deps) ps ≡ kept ps deps → places_set ((if b then 1 else 0) + 2 * bits_of ps deps) (p ∷ ps) ≡ (if b then p ∷ kept ps deps else kept ps deps)
    go true rest =
        let low : (1 + 2 * bits_of ps deps) % 2 ≡ 1 = omega arith in
        let high : (1 + 2 * bits_of ps deps) / 2 ≡ bits_of ps deps = omega arith in
        rw (eq-eqb ((1 + 2 * bits_of ps deps) % 2) 1 low, high, rest) refl
    go false rest =
        let low : (0 + 2 * bits_of ps deps) % 2 ≡ 0 = omega arith in
        let high : (0 + 2 * bits_of ps deps) / 2 ≡ bits_of ps deps = omega arith in
        rw (low, high, rest) refl

kept-none : (ps : List ℕ) → kept ps [] ≡ []
kept-none [] = refl
kept-none (p ∷ ps) = kept-none ps

kept-skip : (ps : List ℕ) (d : ℕ) (ds : List ℕ) → (Contains ps d → ⊥) → kept ps (d ∷ ds) ≡ kept ps ds
kept-skip [] d ds out = refl
kept-skip (p ∷ ps) d ds out = go (eqb p d) refl (kept-skip ps d ds λ h. out (contains_tail p d ps h))
  where
    go : (b : Bool) → eqb p d ≡ b → kept ps (d ∷ ds) ≡ kept ps ds → (if (b || is_member p ds) then p ∷ kept ps (d ∷ ds) else kept ps (d ∷ ds)) ≡ (if is_member p ds then p ∷ kept ps ds else kept ps ds)
    go true is later = absurd (out (subst (Contains (p ∷ ps)) (eqb-true p d is) (contains_head p ps)))
    go false is later = rw later refl

kept-all : (ps deps : List ℕ) → Rises ps → Rises deps → ((y : ℕ) → Contains deps y → Contains ps y) → kept ps deps ≡ deps
kept-all [] [] up up' inside = refl
kept-all [] (d ∷ ds) up up' inside = absurd (contains_none d (inside d (contains_head d ds)))
kept-all (p ∷ ps) [] up up' inside = kept-none (p ∷ ps)
kept-all (p ∷ ps) (d ∷ ds) (above, up) (above', up') inside =
    go (eqb p d) refl (λ is. kept-all ps ds up up' (λ y h. behind y (ap (λ (z : ℕ). z) (eqb-true p d is)) h (contains_cases p y ps (inside y (contains_tail d y ds h)))))
    (λ is. kept-all ps (d ∷ ds) up (above', up') (λ y h. beyond y (lower is) h (contains_cases p y ps (inside y h)) (contains_cases d y ds h)))
  where
    behind : (y : ℕ) → p ≡ d → Contains ds y → (p ≡ y) ⊎ Contains ps y → Contains ps y
    behind y same h (inl is) = absurd (let more : d < y = above' y h in omega (arith, same, is, more))
    behind y same h (inr rest) = rest

    lower : eqb p d ≡ false → p < d
    lower is = first (contains_cases p d ps (inside d (contains_head d ds)))
      where
        first : (p ≡ d) ⊎ Contains ps d → p < d
        first (inl same) = absurd (eqb-false p d is same)
        first (inr rest) = above d rest

    beyond : (y : ℕ) → p < d → Contains (d ∷ ds) y → (p ≡ y) ⊎ Contains ps y → (d ≡ y) ⊎ Contains ds y → Contains ps y
    beyond y lt h (inr rest) either = rest
    beyond y lt h (inl is) (inl same) = absurd (omega (arith, lt, is, same))
    beyond y lt h (inl is) (inr further) = absurd (let more : d < y = above' y further in omega (arith, lt, is, more))

    out : eqb p d ≡ false → Contains ds p → ⊥
    out is h = let more : d < p = above' p h in let lt = lower is in omega (arith, more, lt)

    go : (b : Bool) → eqb p d ≡ b → (eqb p d ≡ true → kept ps ds ≡ ds) → (eqb p d ≡ false → kept ps (d ∷ ds) ≡ d ∷ ds)
        → (if (b || is_member p ds) then p ∷ kept ps (d ∷ ds) else kept ps (d ∷ ds)) ≡ d ∷ ds
    go true is same other =
        let p-is : p ≡ d = eqb-true p d is in
        ap (λ (z : ℕ). z ∷ kept ps (d ∷ ds)) p-is ∙ ap (λ (z : List ℕ). d ∷ z) (kept-skip ps d ds (λ h. let more : p < d = above d h in omega (arith, more, p-is)) ∙ same is)
    go false is same other = rw (among-false p ds (out is)) (other is)

pub read-back : (ps deps : List ℕ) → Rises ps → Rises deps → ((y : ℕ) → Contains deps y → Contains ps y) → places_set (bits_of ps deps) ps ≡ deps
read-back ps deps up up' inside = set-kept ps deps ∙ kept-all ps deps up up' inside

pub bits-few : (ps deps : List ℕ) → bits_of ps deps < 2 ^ length ps
bits-few [] deps = omega arith
bits-few (p ∷ ps) deps = go (is_member p deps) (bits-few ps deps)
  where
    go : (b : Bool) → bits_of ps deps < 2 ^ length ps → (if b then 1 else 0) + 2 * bits_of ps deps < 2 ^ suc (length ps)
    go true less = omega (arith, pow-suc 2 (length ps))
    go false less = omega (arith, pow-suc 2 (length ps))

-- ---- one word

module _ (s d : ℕ) (s-few : s < 128) (d-few : d < 2 ^ 56) where
  bound-parts : ((2 ^ 63 + s * 2 ^ 56 + d) / 2 ^ 63 ≡ 1) × ((2 ^ 63 + s * 2 ^ 56 + d) / 2 ^ 56 % 2 ^ 7 ≡ s) × ((2 ^ 63 + s * 2 ^ 56 + d) % 2 ^ 56 ≡ d)
  bound-parts = (omega arith, omega arith, omega arith)

  regular-parts : ((0 + s * 2 ^ 56 + d) / 2 ^ 63 ≡ 0) × ((0 + s * 2 ^ 56 + d) / 2 ^ 56 % 2 ^ 7 ≡ s) × ((0 + s * 2 ^ 56 + d) % 2 ^ 56 ≡ d)
  regular-parts = (omega arith, omega arith, omega arith)

-- the bits of a word
abbrev pub bits_in : Bool → List ℕ → List ℕ → ℕ
bits_in t places deps = if t then 2 ^ length places else bits_of places deps

abbrev pub WordIs : Bool → List ℕ → ℕ → List ℕ → ℕ → Type 0
WordIs t places s deps v = ((v / 2 ^ 63 == 1) ≡ t) × (v / 2 ^ 56 % 2 ^ 7 ≡ s) × (v % 2 ^ 56 ≡ bits_in t places deps) × (v < 2 ^ 64)

pow-few : (n : ℕ) → n ≤ 55 → 2 ^ n < 2 ^ 56
pow-few n le = pow_below n 56 (omega arith)

word-is : (t : Bool) (places : List ℕ) (s : ℕ) (deps : List ℕ) → s < 128 → length places ≤ 55 → WordIs t places s deps ((if t then 2 ^ 63 else 0) + s * 2 ^ 56 + bits_in t places deps)
word-is true places s deps s-few few =
    let (a, b, c) = bound-parts s (2 ^ length places) s-few (pow-few (length places) few) in
    let small = pow-few (length places) few in
    (eq-eqb _ _ a, b, c, omega arith)
word-is false places s deps s-few few =
    let small = pow-few (length places) few in
    let bits = bits-few places deps in
    let low : bits_of places deps < 2 ^ 56 = omega (arith, small, bits) in
    let (a, b, c) = regular-parts s (bits_of places deps) s-few low in
    (rw a refl, b, c, omega arith)

-- ---- parameters, one after another

module _ (ss : List SortMods) (params : List Binder) (can : CanBeWords ss params) where
  -- after the first i, of which those at the places are bound
  pub record After (i : ℕ) (places : List ℕ) (bs : List Binder) : Type 0 where
    pub each : (k : ℕ) (b : Binder) → slice_get bs k ≡ Some b → slice_get params (i + k) ≡ Some b
    pub have : (j : ℕ) → j < i → IsBoundAt params j → Contains places j
    pub up : Rises places
    pub below : (y : ℕ) → Contains places y → y < i
    pub few : length places + length (filter (λ (b : Binder). b.bound) bs) ≤ 55

  pub at-first : After 0 [] params
  at-first = record {
    each = λ k b at. (let same : 0 + k ≡ k = omega arith in ap (slice_get params) same ∙ at);
    have = λ j lt. absurd (not-suc-le-zero lt);
    up = tt;
    below = λ y h. absurd (contains_none y h);
    few = (let all = can.few_bound in let count = length-filter (λ (b : Binder). b.bound) params in omega (arith, all, count));
  }

  rises-push : (xs : List ℕ) (i : ℕ) → Rises xs → ((y : ℕ) → Contains xs y → y < i) → Rises (xs ++ i ∷ [])
  rises-push [] i up below = ((λ y h. absurd (contains_none y h)), tt)
  rises-push (x ∷ xs) i (above, up) below = (
    (λ y h. elim (Contains-append_cases xs (i ∷ []) y h) [
      | inl before ↦ above y before
      | inr last ↦ elim (contains_cases i y [] last) [
        | inl is ↦ subst (λ (z : ℕ). x < z) is (below x (contains_head x xs))
        | inr never ↦ absurd (contains_none y never)
      ]
    ]),
    rises-push xs i up λ y h. below y (contains_tail x y xs h),
  )

  pub here : (i : ℕ) (places : List ℕ) (b : Binder) (bs : List Binder) → After i places (b ∷ bs) → slice_get params i ≡ Some b
  here i places b bs after = let same : i + 0 ≡ i = omega arith in ap (slice_get params) (sym same) ∙ after.each 0 b refl

  pub next : (i : ℕ) (places : List ℕ) (b : Binder) (bs : List Binder) → After i places (b ∷ bs) → After (suc i) (if b.bound then places ++ i ∷ [] else places) bs
  next i places b bs after = go b.bound refl after.few
    where
      shift : (k : ℕ) → suc i + k ≡ i + suc k
      shift k = omega arith

      bound-is : (j : ℕ) → j < suc i → IsBoundAt params j → (j < i) ⊎ (b.bound ≡ true)
      bound-is j lt (c, at, is) = by (eqb j i) refl
        where
          by : (t : Bool) → eqb j i ≡ t → (j < i) ⊎ (b.bound ≡ true)
          by true e =
              let c-is : Some c ≡ Some b = sym at ∙ ap (slice_get params) (eqb-true j i e) ∙ here i places b bs after in
              let same : c ≡ b = cc in
              inr (ap (λ (z : Binder). z.bound) (sym same) ∙ is)
          by false e = inl (let other : j ≡ i → ⊥ = eqb-false j i e in grind (arith, other))

      still : (j : ℕ) → j < suc i → IsBoundAt params j → (t : Bool) → eqb j i ≡ t → Contains (places ++ i ∷ []) j
      still j lt bound true e = subst (Contains (places ++ i ∷ [])) (sym (eqb-true j i e)) (Contains-push places i)
      still j lt bound false e =
          let other : j ≡ i → ⊥ = eqb-false j i e in
          let less : j < i = grind (arith, other) in
          Contains-append_left places (i ∷ []) j (after.have j less bound)

      not-both : (t : Bool) → t ≡ true → t ≡ false → ⊥
      not-both true e f = cc
      not-both false e f = cc

      go : (t : Bool) → b.bound ≡ t → length places + length (cond t (b ∷ filter (λ (c : Binder). c.bound) bs) (filter (λ (c : Binder). c.bound) bs)) ≤ 55 → After (suc i) (if t then places ++ i ∷ [] else places) bs
      go true is few = record {
        each = λ k c at. ap (slice_get params) (shift k) ∙ after.each (suc k) c at;
        have = λ j lt bound. still j lt bound (eqb j i) refl;
        up = rises-push places i after.up after.below;
        below = λ y h. elim (Contains-append_cases places (i ∷ []) y h) [
          | inl before ↦ (let lt : y < i = after.below y before in omega (arith, lt))
          | inr last ↦ elim (contains_cases i y [] last) [ inl same ↦ omega (arith, same) | inr never ↦ absurd (contains_none y never) ]
        ];
        few = (let long = length-append places (i ∷ []) in omega (arith, long, few));
      }
      go false is few = record {
        each = λ k c at. ap (slice_get params) (shift k) ∙ after.each (suc k) c at;
        have = λ j lt bound. elim (bound-is j lt bound) [
          | inl before ↦ after.have j before bound
          | inr bound' ↦ absurd (not-both b.bound bound' is)
        ];
        up = after.up;
        below = λ y h. (let lt : y < i = after.below y h in omega (arith, lt));
        few = few;
      }

  -- the word of the next binder, and its bits
  pub says : (i : ℕ) (places : List ℕ) (b : Binder) (bs : List Binder) → After i places (b ∷ bs) → WordIs b.bound places b.sort b.deps (word_of places b).0
  says i places b bs after =
      let there = each_from_all (λ (c : Binder). c.sort < length ss) params can.sorts_there i b (here i places b bs after) in
      let most = can.few_sorts in
      let few : length places ≤ 55 = (let all = after.few in omega (arith, all)) in
      word-is b.bound places b.sort b.deps (omega (arith, there, most)) few

  deps-inside : (i : ℕ) (places : List ℕ) (b : Binder) (bs : List Binder) → After i places (b ∷ bs) → b.bound ≡ false → (y : ℕ) → Contains b.deps y → Contains places y
  deps-inside i places b bs after regular y has =
      let (lt, bound) = All-contains (λ (j : ℕ). (j < i) × IsBoundAt params j) b.deps y ((can.right i b (here i places b bs after)).1 regular) has in
      after.have y lt bound

  binder-back : (i : ℕ) (places : List ℕ) (b : Binder) (bs : List Binder) → After i places (b ∷ bs) → binder_of places (word_of places b) ≡ b
  binder-back i places b bs after =
      let (bound-is, sort-is, deps-are, _) = says i places b bs after in
      ap (λ (t : Bool). made (word_sort w) t (if t then [] else places_set (word_deps w) places)) bound-is
      ∙ ap (λ (s : ℕ). made s b.bound (if b.bound then [] else places_set (word_deps w) places)) sort-is
      ∙ ap (λ (d : ℕ). made b.sort b.bound (if b.bound then [] else places_set d places)) deps-are
      ∙ ap (made b.sort b.bound) (go b.bound refl)
    where
      w : Word
      w = word_of places b

      made : ℕ → Bool → List ℕ → Binder
      made s t ds = record { sort = s; bound = t; deps = ds }

      go : (t : Bool) → b.bound ≡ t → (if t then [] else places_set (bits_in t places b.deps) places) ≡ b.deps
      go true is = sym ((can.right i b (here i places b bs after)).0 is).0
      go false is = read-back places b.deps after.up (increasing-rises b.deps (each_from_all (λ (c : Binder). IsStrictlyIncreasing c.deps) params can.ascend i b (here i places b bs after)))
          (deps-inside i places b bs after is)

  words-back : (i : ℕ) (places : List ℕ) (bs : List Binder) → After i places bs → binders_from i places (words_from i places bs) ≡ bs
  words-back i places [] after = refl
  words-back i places (b ∷ bs) after =
      let further : List ℕ = if b.bound then places ++ i ∷ [] else places in
      ap (λ (z : Binder). z ∷ binders_from (suc i) (if word_bound (word_of places b) then places ++ i ∷ [] else places) (words_from (suc i) further bs)) (binder-back i places b bs after)
      ∙ ap (λ (t : Bool). b ∷ binders_from (suc i) (if t then places ++ i ∷ [] else places) (words_from (suc i) further bs)) (says i places b bs after).0
      ∙ ap (λ (z : List Binder). b ∷ z) (words-back (suc i) further bs (next i places b bs after))

  words-fit : (i : ℕ) (places : List ℕ) (bs : List Binder) → After i places bs → All (λ (w : Word). w.0 < 2 ^ 64) (words_from i places bs)
  words-fit i places [] after k d lt = absurd (not-suc-le-zero lt)
  words-fit i places (b ∷ bs) after zero d lt = (says i places b bs after).3
  words-fit i places (b ∷ bs) after (suc k) d lt = words-fit (suc i) (if b.bound then places ++ i ∷ [] else places) bs (next i places b bs after) k d (omega arith)

  -- the places of bound words are those of bound binders
  pub places-same : (i : ℕ) (places : List ℕ) (bs : List Binder) → After i places bs → bound_places i (words_from i places bs) ≡ bound_from i bs
  places-same i places [] after = refl
  places-same i places (b ∷ bs) after =
      let further : List ℕ = if b.bound then places ++ i ∷ [] else places in
      let rest : bound_places (suc i) (words_from (suc i) further bs) ≡ bound_from (suc i) bs = places-same (suc i) further bs (next i places b bs after) in
      ap (λ (t : Bool). if t then i ∷ bound_places (suc i) (words_from (suc i) further bs) else bound_places (suc i) (words_from (suc i) further bs)) (says i places b bs after).0
      ∙ ap (λ (z : List ℕ). if b.bound then i ∷ z else z) rest

  -- and they are the places in the end
  last-places : (i : ℕ) (places : List ℕ) (bs : List Binder) → After i places bs → After (i + length bs) (places ++ bound_from i bs) []
  last-places i places [] after = subst (λ (z : ℕ). After z (places ++ []) []) (plus-zero i) (subst (λ (z : List ℕ). After i z []) (sym (append-nil' places)) after)
    where
      plus-zero : (a : ℕ) → a ≡ a + 0
      plus-zero a = omega arith

      append-nil' : (xs : List ℕ) → xs ++ [] ≡ xs
      append-nil' [] = refl
      append-nil' (x ∷ xs) = ap (λ (z : List ℕ). x ∷ z) (append-nil' xs)
  last-places i places (b ∷ bs) after = go b.bound (last-places (suc i) (if b.bound then places ++ i ∷ [] else places) bs (next i places b bs after))
    where
      shift : suc i + length bs ≡ i + suc (length bs)
      shift = omega arith

      go : (t : Bool) → After (suc i + length bs) ((if t then places ++ i ∷ [] else places) ++ bound_from (suc i) bs) [] → After (i + suc (length bs)) (places ++ (if t then i ∷ bound_from (suc i) bs else bound_from (suc i) bs)) []
      go true h = subst (λ (z : ℕ). After z (places ++ i ∷ bound_from (suc i) bs) []) shift (subst (λ (z : List ℕ). After (suc i + length bs) z []) (append_assoc places (i ∷ []) (bound_from (suc i) bs)) h)
      go false h = subst (λ (z : ℕ). After z (places ++ bound_from (suc i) bs) []) shift h

  pub in-the-end : After (0 + length params) (bound_from 0 params) []
  in-the-end = last-places 0 [] params at-first

  -- ---- a result

  pub result-says : (r : ResultType) → r.sort < length ss → WordIs false (bound_from 0 params) r.sort r.deps (result_word params r).0
  result-says r there =
      let most = can.few_sorts in
      let few : length (bound_from 0 params) ≤ 55 = (let all = in-the-end.few in omega (arith, all)) in
      subst (λ (v : ℕ). WordIs false (bound_from 0 params) r.sort r.deps v) (zero-plus (r.sort * 2 ^ 56) (bits_of (bound_from 0 params) r.deps))
      (word-is false (bound_from 0 params) r.sort r.deps (omega (arith, there, most)) few)
    where
      zero-plus : (a b : ℕ) → 0 + a + b ≡ a + b
      zero-plus a b = omega arith

pub params-back : ParamsAreReadBack
params-back ss params can = words-back ss params can 0 [] params (at-first ss params can)

pub words-are-words : WordsFit
words-are-words ss params can = words-fit ss params can 0 [] params (at-first ss params can)

pub results-back : ResultsAreReadBack
results-back ss params r has_body can there bound increasing =
    let (_, sort-is, deps-are, _) = result-says ss params can r there in
    let end = in-the-end ss params can in
    let places : List ℕ = bound_from 0 params in
    let inside : (y : ℕ) → Contains r.deps y → Contains places y = λ y has.
    (let (c, at, is) = All-contains (IsBoundAt params) r.deps y bound has in
    let below = slice_get_within params y c at in
    end.have y (omega (arith, below)) (c, at, is)) in
    ap (λ (s : ℕ). made s (places_set (word_deps (result_word params r)) (bound_places 0 (words_of params)))) sort-is
    ∙ ap (λ (d : ℕ). made r.sort (places_set d (bound_places 0 (words_of params)))) deps-are
    ∙ ap (λ (z : List ℕ). made r.sort (places_set (bits_of places r.deps) z)) (places-same ss params can 0 [] params (at-first ss params can))
    ∙ ap (made r.sort) (read-back places r.deps end.up (increasing-rises r.deps increasing) inside)
  where
    made : ℕ → List ℕ → ResultType
    made s ds = record { sort = s; deps = ds }

pub result-is-word : ResultWordsFit
result-is-word ss params r can there = (result-says ss params can r there).3
