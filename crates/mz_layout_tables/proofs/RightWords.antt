-- What right words say: right parameters, with no bit left out.
use Rattle.std.proofs.Common.{◌≡◌, ◌<◌, ◌≤◌, ◌+◌, ◌^◌, ℕ, zero, suc, Bool, true, false, cond, List, [], ◌∷◌, length, ◌++◌, take, slice_get, All, Some, refl, ap, subst, arith, not-suc-le-zero, le_of_suc-le-suc}
use Rattle.std.specs.Prelude.{MatchBool, if◌then◌else◌}
use Rattle.std.specs.List.{filter}
use Rattle.std.proofs.lemmas.Option.{slice_get_within}
use Rattle.mz_logic_theory.specs.Laws.{BoundWordsMayBeBound}
use Rattle.mz_logic_theory.specs.Words.{word_bound, word_sort, word_deps, binders_from, BitsRightAfter}
use Rattle.mz_logic_theory.specs.declared.binder.SortMods.{SortMods}
use Rattle.mz_logic_theory.specs.declared.word.Word.{Word}
use Rattle.mz_logic_theory.proofs.Offered.{words_say_parameters}
use Rattle.mz_layout_tables.specs.RowWords.{bound_count, IsParamWord, AreParamWords, RightWordsSayParams}
use Rattle.mz_layout_tables.proofs.ParamWords.{bound-from, regular-from, param-from}

-- ---- sorts

all-sorts : (n i : ℕ) (places : List ℕ) (ws : List Word) → ((j : ℕ) (w : Word) → slice_get ws j ≡ Some w → word_sort w < n) → All (λ b. b.sort < n) (binders_from i places ws)
all-sorts n i places [] h k d below = absurd (not-suc-le-zero below)
all-sorts n i places (w ∷ ws) h zero d below = h zero w refl
all-sorts n i places (w ∷ ws) h (suc k) d below =
    all-sorts n (suc i) (if word_bound w then places ++ i ∷ [] else places) ws (λ j v at. h (suc j) v at) k d (le_of_suc-le-suc below)

-- ---- bits

-- each word is right after k bound ones and those before it
abbrev RightAfter : List SortMods → ℕ → List Word → Type 0
RightAfter ss k ws = (i : ℕ) (w : Word) → slice_get ws i ≡ Some w → IsParamWord ss (k + bound_count (take i ws)) w

module _ (ss : List SortMods) (k : ℕ) (w : Word) (ws : List Word) (h : RightAfter ss k (w ∷ ws)) where
  first-right : IsParamWord ss k w
  first-right = let none : k + 0 ≡ k = omega arith in subst (λ n. IsParamWord ss n w) none (h zero w refl)

  after-bound : word_bound w ≡ true → RightAfter ss (suc k) ws
  after-bound bd i v at =
      let more : bound_count (w ∷ take i ws) ≡ suc (bound_count (take i ws)) = ap (λ b. length (cond b (w ∷ filter word_bound (take i ws)) (filter word_bound (take i ws)))) bd in
      let same : k + bound_count (w ∷ take i ws) ≡ suc k + bound_count (take i ws) = omega (arith, more) in
      subst (λ n. IsParamWord ss n v) same (h (suc i) v at)

  after-regular : word_bound w ≡ false → RightAfter ss k ws
  after-regular reg i v at =
      let same : bound_count (w ∷ take i ws) ≡ bound_count (take i ws) = ap (λ b. length (cond b (w ∷ filter word_bound (take i ws)) (filter word_bound (take i ws)))) reg in
      subst (λ n. IsParamWord ss n v) (ap (λ n. k + n) same) (h (suc i) v at)

  bits-first : (b : Bool) → word_bound w ≡ b → (word_bound w ≡ true → BitsRightAfter (suc k) ws) → (word_bound w ≡ false → BitsRightAfter k ws)
      → MatchBool b ((k ≤ 54) × (word_deps w ≡ 2 ^ k) × BitsRightAfter (suc k) ws) ((word_deps w < 2 ^ k) × BitsRightAfter k ws)
  bits-first true is up on = let right = bound-from ss k w is first-right in (right.1, right.2, up is)
  bits-first false is up on = (regular-from ss k w is first-right, on is)

bits-after : (ss : List SortMods) (k : ℕ) (ws : List Word) → RightAfter ss k ws → BitsRightAfter k ws
bits-after ss k [] h = tt
bits-after ss k (w ∷ ws) h =
    bits-first ss k w ws h (word_bound w) refl (λ bd. bits-after ss (suc k) ws (after-bound ss k w ws h bd)) (λ reg. bits-after ss k ws (after-regular ss k w ws h reg))

few-first : (k : ℕ) (w : Word) (ws : List Word) (b : Bool) → word_bound w ≡ b → k ≤ 55
    → MatchBool b ((k ≤ 54) × (word_deps w ≡ 2 ^ k) × BitsRightAfter (suc k) ws) ((word_deps w < 2 ^ k) × BitsRightAfter k ws)
    → (suc k ≤ 55 → BitsRightAfter (suc k) ws → suc k + bound_count ws ≤ 55) → (BitsRightAfter k ws → k + bound_count ws ≤ 55)
    → k + length (cond b (w ∷ filter word_bound ws) (filter word_bound ws)) ≤ 55
few-first k w ws true is few bits up on = let low : k ≤ 54 = bits.0 in let rest : suc k + bound_count ws ≤ 55 = up (omega arith) bits.2 in omega arith
few-first k w ws false is few bits up on = on bits.1

few-bound : (k : ℕ) (ws : List Word) → k ≤ 55 → BitsRightAfter k ws → k + bound_count ws ≤ 55
few-bound k [] few bits = omega arith
few-bound k (w ∷ ws) few bits = few-first k w ws (word_bound w) refl few bits (λ low rest. few-bound (suc k) ws low rest) (λ rest. few-bound k ws few rest)

-- ---- all of it

module _ (ss : List SortMods) (ws : List Word) (right : AreParamWords ss ws) where
  each-right : (i : ℕ) (w : Word) → slice_get ws i ≡ Some w → IsParamWord ss (bound_count (take i ws)) w
  each-right i w at = param-from ws i (bound_count (take i ws)) w at refl ss 0 (right i (slice_get_within ws i w at))

  from-none : RightAfter ss 0 ws
  from-none i w at = let same : bound_count (take i ws) ≡ 0 + bound_count (take i ws) = omega arith in subst (λ n. IsParamWord ss n w) same (each-right i w at)

  pub bound-right : BoundWordsMayBeBound ss ws
  bound-right i w at bd = (bound-from ss (bound_count (take i ws)) w bd (each-right i w at)).0

pub right-words : RightWordsSayParams
right-words ss ws right =
    let bits = bits-after ss 0 ws (from-none ss ws right) in
    let few : 0 + bound_count ws ≤ 55 = few-bound 0 ws (omega arith) bits in
    (all-sorts (length ss) 0 [] ws (λ i w at. (each-right ss ws right i w at).0), words_say_parameters ss ws (bound-right ss ws right), bits, omega arith)
