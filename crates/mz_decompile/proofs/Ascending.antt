-- The dependencies that words say stand in ascending order.
use Rattle.std.proofs.Common.{◌≡◌, ◌≤◌, ◌<◌, ◌+◌, ◌/◌, ◌%◌, ◌==◌, ℕ, zero, suc, List, [], ◌∷◌, ◌++◌, length, get_or, Bool, true, false, subst, arith}
use Rattle.std.specs.Prelude.{if◌then◌else◌}
use Rattle.std.specs.List.Sorted.{IsStrictlyIncreasing}
use Rattle.std.proofs.lemmas.List.Elements.{All-nil, All-cons}
use Rattle.mz_logic_theory.specs.Words.{word_bound, word_deps, places_set, bound_places, binder_of, binders_from, binders_of, TermWords, result_of}
use Rattle.mz_logic_theory.specs.Declaration.{DepsAscend}
use Rattle.mz_logic_theory.specs.declared.binder.Binder.{Binder}
use Rattle.mz_logic_theory.specs.declared.word.Word.{Word}

-- ascending from a number on, and all below another
abbrev Ascends : ℕ → ℕ → List ℕ → Type 0
Ascends low high [] = low ≤ high
Ascends low high (x ∷ xs) = (low ≤ x) × Ascends (suc x) high xs

ascends-up : (low high : ℕ) (xs : List ℕ) → Ascends low high xs → low ≤ high
ascends-up low high [] h = h
ascends-up low high (x ∷ xs) (le, h) = omega (arith, le, ascends-up (suc x) high xs h)

-- from a lower number on
ascends-lower : (low lower high : ℕ) (xs : List ℕ) → lower ≤ low → Ascends low high xs → Ascends lower high xs
ascends-lower low lower high [] le h = omega (arith, le, h)
ascends-lower low lower high (x ∷ xs) le (first, h) = (omega (arith, le, first), h)

ascends-higher : (low high : ℕ) (xs : List ℕ) → Ascends low high xs → Ascends low (suc high) xs
ascends-higher low high [] h = omega (arith, h)
ascends-higher low high (x ∷ xs) (first, h) = (first, ascends-higher (suc x) high xs h)

ascends-push : (low high : ℕ) (xs : List ℕ) → Ascends low high xs → Ascends low (suc high) (xs ++ high ∷ [])
ascends-push low high [] h = (h, omega arith)
ascends-push low high (x ∷ xs) (first, h) = (first, ascends-push (suc x) high xs h)

increases : (low high : ℕ) (xs : List ℕ) → Ascends low high xs → IsStrictlyIncreasing xs
increases low high [] h k within = absurd (omega (arith, within))
increases low high (x ∷ []) h k within = absurd (omega (arith, within))
increases low high (x ∷ y ∷ ys) (first, (second, h)) zero within = second
increases low high (x ∷ y ∷ ys) (first, h) (suc k) within =
    let next : suc (k + 1) ≡ suc k + 1 = omega arith in
    subst (λ j. get_or (y ∷ ys) k 0 < get_or (x ∷ y ∷ ys) j 0) next (increases (suc x) high (y ∷ ys) h k (omega (arith, within)))

-- ---- places

set-ascends : (low high bits : ℕ) (ps : List ℕ) → Ascends low high ps → Ascends low high (places_set bits ps)
set-ascends low high bits [] h = h
set-ascends low high bits (p ∷ ps) (first, h) = go (bits % 2 == 1) (set-ascends (suc p) high (bits / 2) ps h)
  where
    go : (b : Bool) → Ascends (suc p) high (places_set (bits / 2) ps) → Ascends low high (if b then p ∷ places_set (bits / 2) ps else places_set (bits / 2) ps)
    go true rest = (first, rest)
    go false rest = ascends-lower (suc p) low high (places_set (bits / 2) ps) (omega (arith, first)) rest

places-ascend : (i : ℕ) (ws : List Word) → Ascends i (i + length ws) (bound_places i ws)
places-ascend i [] = omega arith
places-ascend i (w ∷ ws) =
    let same : suc i + length ws ≡ i + suc (length ws) = omega arith in
    go (word_bound w) (subst (λ n. Ascends (suc i) n (bound_places (suc i) ws)) same (places-ascend (suc i) ws))
  where
    go : (b : Bool) → Ascends (suc i) (i + suc (length ws)) (bound_places (suc i) ws) → Ascends i (i + suc (length ws)) (if b then i ∷ bound_places (suc i) ws else bound_places (suc i) ws)
    go true rest = (omega arith, rest)
    go false rest = ascends-lower (suc i) i (i + suc (length ws)) (bound_places (suc i) ws) (omega arith) rest

-- ---- binders

binder-ascends : (i : ℕ) (places : List ℕ) (w : Word) → Ascends 0 i places → IsStrictlyIncreasing (binder_of places w).deps
binder-ascends i places w h = go (word_bound w)
  where
    go : (b : Bool) → IsStrictlyIncreasing (if b then [] else places_set (word_deps w) places)
    go true = λ k within. absurd (omega (arith, within))
    go false = increases 0 i (places_set (word_deps w) places) (set-ascends 0 i (word_deps w) places h)

deps-ascend : (i : ℕ) (places : List ℕ) (ws : List Word) → Ascends 0 i places → DepsAscend (binders_from i places ws)
deps-ascend i places [] h = All-nil (λ (b : Binder). IsStrictlyIncreasing b.deps)
deps-ascend i places (w ∷ ws) h =
    All-cons (λ (b : Binder). IsStrictlyIncreasing b.deps) (binder_of places w) (binders_from (suc i) (if word_bound w then places ++ i ∷ [] else places) ws) (binder-ascends i places w h)
    (deps-ascend (suc i) (if word_bound w then places ++ i ∷ [] else places) ws (go (word_bound w)))
  where
    go : (b : Bool) → Ascends 0 (suc i) (if b then places ++ i ∷ [] else places)
    go true = ascends-push 0 i places h
    go false = ascends-higher 0 i places h

pub params-ascend : (ws : List Word) → DepsAscend (binders_of ws)
params-ascend ws = deps-ascend 0 [] ws (omega arith)

pub result-ascends : (t : TermWords) → IsStrictlyIncreasing (result_of t).deps
result-ascends t =
    increases 0 (0 + length t.params) (places_set (word_deps t.result) (bound_places 0 t.params))
    (set-ascends 0 (0 + length t.params) (word_deps t.result) (bound_places 0 t.params) (places-ascend 0 t.params))
