-- The words that are written pass.
use Rattle.std.proofs.Common.{◌≡◌, ◌<◌, ◌≤◌, ◌+◌, ◌^◌, ◌∙◌, ℕ, zero, suc, Bool, true, false, cond, List, [], ◌∷◌, ◌++◌, length, take, slice_get, Some, refl, sym, ap, subst, arith, length-append}
use Rattle.std.specs.Prelude.{MatchBool, if◌then◌else◌}
use Rattle.std.specs.List.{filter}
use Rattle.std.proofs.lemmas.Option.{slice_get_within}
use Rattle.mz_logic_theory.specs.Modifiers.{MayBeResultSort, MayBeBoundSort}
use Rattle.mz_logic_theory.specs.Words.{word_bound, word_sort, word_deps, bound_places}
use Rattle.mz_logic_theory.specs.WordsWritten.{bits_of, word_of, words_from, words_of, bound_from, CanBeWords}
use Rattle.mz_logic_theory.specs.declared.binder.Binder.{Binder}
use Rattle.mz_logic_theory.specs.declared.binder.SortMods.{SortMods}
use Rattle.mz_logic_theory.specs.declared.word.Word.{Word}
use Rattle.mz_logic_theory.proofs.Offered.{each_from_all, After, at-first, next, here, says, bits-few, result-says, places-same}
use Rattle.mz_layout_tables.specs.RowWords.{bound_count, IsParamWord, IsParamAt, AreParamWords, IsResultWord}
use Rattle.mz_layout_tables.specs.WordsPass.{WrittenParamsPass, WrittenRowsPass}
use Rattle.mz_layout_tables.proofs.WordsHold.{params-hold, words-hold}

module _ (ss : List SortMods) (params : List Binder) (can : CanBeWords ss params) where
  one-right : (i : ℕ) (places : List ℕ) (b : Binder) (bs : List Binder) → After ss params can i places (b ∷ bs) → IsParamWord ss (length places) (word_of places b)
  one-right i places b bs after =
      let (bound-is, sort-is, deps-are, _) = says ss params can i places b bs after in
      let w : Word = word_of places b in
      let there : b.sort < length ss = each_from_all (λ (c : Binder). c.sort < length ss) params can.sorts_there i b (here ss params can i places b bs after) in (
        subst (λ (s : ℕ). s < length ss) (sym sort-is) there,
        subst (λ (t : Bool). MatchBool t (MayBeBoundSort ss (word_sort w) × (length places ≤ 54) × (word_deps w ≡ 2 ^ length places)) (word_deps w < 2 ^ length places)) (sym bound-is)
            (go b.bound refl sort-is deps-are after.few),
      )
    where
      go : (t : Bool) → b.bound ≡ t → word_sort (word_of places b) ≡ b.sort → word_deps (word_of places b) ≡ (if t then 2 ^ length places else bits_of places b.deps)
          → length places + length (cond t (b ∷ filter (λ (c : Binder). c.bound) bs) (filter (λ (c : Binder). c.bound) bs)) ≤ 55
          → MatchBool t (MayBeBoundSort ss (word_sort (word_of places b)) × (length places ≤ 54) × (word_deps (word_of places b) ≡ 2 ^ length places)) (word_deps (word_of places b) < 2 ^ length places)
      go true is sort-is deps-are few =
          (subst (MayBeBoundSort ss) (sym sort-is) ((can.right i b (here ss params can i places b bs after)).0 is).1, omega (arith, few), deps-are)
      go false is sort-is deps-are few = let bits = bits-few places b.deps in omega (arith, bits, deps-are)

  all-right : (i : ℕ) (places : List ℕ) (bs : List Binder) → After ss params can i places bs → (j : ℕ) (w : Word) → slice_get (words_from i places bs) j ≡ Some w
      → IsParamWord ss (length places + bound_count (take j (words_from i places bs))) w
  all-right i places [] after j w at = absurd cc
  all-right i places (b ∷ bs) after zero w at =
      let same : word_of places b ≡ w = cc in
      let plus-zero : length places ≡ length places + 0 = omega arith in
      subst (λ (n : ℕ). IsParamWord ss n w) plus-zero (subst (IsParamWord ss (length places)) same (one-right i places b bs after))
  all-right i places (b ∷ bs) after (suc j) w at =
      let further : List ℕ = if b.bound then places ++ i ∷ [] else places in
      let rest = all-right (suc i) further bs (next ss params can i places b bs after) j w at in
      subst (λ (n : ℕ). IsParamWord ss n w) (counts b.bound (take j (words_from (suc i) further bs)) ∙ ap (λ (t : Bool). length places + length (cond t (word_of places b ∷ filter word_bound (take j (words_from (suc i) further bs))) (filter word_bound (take j (words_from (suc i) further bs))))) (sym (says ss params can i places b bs after).0)) rest
    where
      counts : (t : Bool) (ws : List Word) → length (if t then places ++ i ∷ [] else places) + bound_count ws ≡ length places + length (cond t (word_of places b ∷ filter word_bound ws) (filter word_bound ws))
      counts true ws = let long = length-append places (i ∷ []) in omega (arith, long)
      counts false ws = refl

  pub param-at : (j : ℕ) → j < length (words_of params) → IsParamAt ss (words_of params) j
  param-at j lt =
      let (w, at) = there (words_of params) j lt in
      let zero-plus : 0 + bound_count (take j (words_of params)) ≡ bound_count (take j (words_of params)) = omega arith in
      (w, at, subst (λ (n : ℕ). IsParamWord ss n w) zero-plus (all-right 0 [] params (at-first ss params can) j w at))
    where
      there : (ws : List Word) (k : ℕ) → k < length ws → (w : Word) × (slice_get ws k ≡ Some w)
      there [] k less = absurd (omega arith)
      there (w ∷ ws) zero less = (w, refl)
      there (w ∷ ws) (suc k) less = there ws k (omega arith)

pub params-pass : WrittenParamsPass
params-pass ss params words_at can = params-hold ss words_at (words_of params) (param-at ss params can)

-- how many of the words are bound
pub bound-many : (i : ℕ) (ws : List Word) → length (bound_places i ws) ≡ bound_count ws
bound-many i [] = refl
bound-many i (w ∷ ws) = go (word_bound w) (bound-many (suc i) ws)
  where
    go : (b : Bool) → length (bound_places (suc i) ws) ≡ bound_count ws
        → length (if b then i ∷ bound_places (suc i) ws else bound_places (suc i) ws) ≡ length (cond b (w ∷ filter word_bound ws) (filter word_bound ws))
    go true h = ap suc h
    go false h = h

pub rows-pass : WrittenRowsPass
rows-pass ss params r row can may w =
    words-hold ss row (subst (AreParamWords ss) (sym w.params_are) (param-at ss params can)) result
  where
    result : IsResultWord ss row
    result =
        let (bound-is, sort-is, deps-are, _) = result-says ss params can r (slice_get_within ss r.sort may.0 may.1) in
        let bits = bits-few (bound_from 0 params) r.deps in
        let count : bound_count row.words.params ≡ length (bound_from 0 params) =
        ap bound_count w.params_are ∙ sym (bound-many 0 (words_of params)) ∙ ap (λ (z : List ℕ). length z) (places-same ss params can 0 [] params (at-first ss params can)) in
        record {
          is_regular = ap word_bound w.result_is ∙ bound-is;
          named = ap word_sort w.result_is ∙ sort-is ∙ sym w.sort_is;
          may_be = subst (MayBeResultSort ss) (sym w.sort_is) may;
          bits = subst (λ (k : ℕ). word_deps row.words.result < 2 ^ k) (sym count) (subst (λ (v : Word). word_deps v < 2 ^ length (bound_from 0 params)) (sym w.result_is)
              (subst (λ (d : ℕ). d < 2 ^ length (bound_from 0 params)) (sym deps-are) bits));
        }
