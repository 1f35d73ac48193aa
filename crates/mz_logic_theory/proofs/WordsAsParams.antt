-- What words say of binders: right parameters, and results that depend on bound ones.
use Rattle.std.proofs.Common.{ℕ, zero, suc, ◌≡◌, ◌<◌, ◌+◌, ◌%◌, ◌/◌, ◌==◌, Bool, true, false, List, [], ◌∷◌, ◌++◌, slice_get, length, All, Some, refl, sym, ap, ◌∙◌, subst, inl, inr, arith, append_assoc, append-nil, not-suc-le-zero, le_of_suc-le-suc, if◌then◌else◌}
use Rattle.std.specs.Bool.{⊤}
use Rattle.std.proofs.lemmas.Option.{slice_get_within, none-some}
use Rattle.mz_logic_theory.specs.Modifiers.{MayBeBoundSort}
use Rattle.mz_logic_theory.specs.Variables.{IsBoundAt}
use Rattle.mz_logic_theory.specs.Legality.{IsParam, AreParams}
use Rattle.mz_logic_theory.specs.Words.{word_bound, word_sort, word_deps, places_set, bound_places, binder_of, binders_from, binders_of}
use Rattle.mz_logic_theory.specs.Laws.{BoundWordsMayBeBound, WordsSayParameters, WordsSayResults}
use Rattle.mz_logic_theory.specs.declared.binder.Binder.{Binder}
use Rattle.mz_logic_theory.specs.declared.binder.SortMods.{SortMods}
use Rattle.mz_logic_theory.specs.declared.word.Word.{Word}
use Rattle.mz_logic_theory.proofs.Instance.{one_at}
use Rattle.mz_logic_theory.proofs.Extend.{extends_append}
use Rattle.mz_logic_theory.proofs.Fresh.{split_at}

abbrev AllOf : (ℕ → Type 0) → List ℕ → Type 0
AllOf P [] = ⊤
AllOf P (j ∷ js) = P j × AllOf P js

all_from_each_of : (P : ℕ → Type 0) (js : List ℕ) → AllOf P js → All P js
all_from_each_of P [] h k d below = absurd (not-suc-le-zero below)
all_from_each_of P (j ∷ js) (h, hs) zero d below = h
all_from_each_of P (j ∷ js) (h, hs) (suc k) d below = all_from_each_of P js hs k d (le_of_suc-le-suc below)

all_of_more : (P Q : ℕ → Type 0) → ((j : ℕ) → P j → Q j) → (js : List ℕ) → AllOf P js → AllOf Q js
all_of_more P Q m [] h = tt
all_of_more P Q m (j ∷ js) (h, hs) = (m j h, all_of_more P Q m js hs)

all_of_push : (P : ℕ → Type 0) (js : List ℕ) (i : ℕ) → AllOf P js → P i → AllOf P (js ++ i ∷ [])
all_of_push P [] i h p = (p, tt)
all_of_push P (j ∷ js) i (h, hs) p = (h, all_of_push P js i hs p)

either_of : (P : ℕ → Type 0) (v : Bool) (js ks : List ℕ) → (v ≡ true → AllOf P js) → (v ≡ false → AllOf P ks) → AllOf P (if v then js else ks)
either_of P true js ks h k = h refl
either_of P false js ks h k = k refl

places_set_of : (P : ℕ → Type 0) (bits : ℕ) (ps : List ℕ) → AllOf P ps → AllOf P (places_set bits ps)
places_set_of P bits [] h = tt
places_set_of P bits (p ∷ ps) (h, hs) =
    either_of P (bits % 2 == 1) (p ∷ places_set (bits / 2) ps) (places_set (bits / 2) ps) (λ _. (h, places_set_of P (bits / 2) ps hs)) (λ _. places_set_of P (bits / 2) ps hs)

-- ---- one more binder

bound_still : (pre more : List Binder) (j : ℕ) → IsBoundAt pre j → IsBoundAt (pre ++ more) j
bound_still pre more j (c, at, bd) = (c, extends_append pre more j c at, bd)

last_at : (pre : List Binder) (b : Binder) → slice_get (pre ++ b ∷ []) (length pre) ≡ Some b
last_at [] b = refl
last_at (c ∷ pre) b = last_at pre b

one_longer : (pre : List Binder) (b : Binder) → length (pre ++ b ∷ []) ≡ suc (length pre)
one_longer [] b = refl
one_longer (c ∷ pre) b = ap suc (one_longer pre b)

-- the places of bound words, with the new one's if it is bound
places_more : (pre : List Binder) (places : List ℕ) (w : Word) → AllOf (IsBoundAt pre) places
    → AllOf (IsBoundAt (pre ++ binder_of places w ∷ [])) (if word_bound w then places ++ length pre ∷ [] else places)
places_more pre places w h =
    either_of (IsBoundAt (pre ++ binder_of places w ∷ [])) (word_bound w) (places ++ length pre ∷ []) places
    (λ bd. all_of_push (IsBoundAt (pre ++ binder_of places w ∷ [])) places (length pre) kept (binder_of places w, last_at pre (binder_of places w), bd)) (λ _. kept)
  where
    kept : AllOf (IsBoundAt (pre ++ binder_of places w ∷ [])) places
    kept = all_of_more (IsBoundAt pre) (IsBoundAt (pre ++ binder_of places w ∷ [])) (bound_still pre (binder_of places w ∷ [])) places h

param_still : (ss : List SortMods) (pre more : List Binder) (i : ℕ) (c : Binder) → IsParam ss pre i c → IsParam ss (pre ++ more) i c
param_still ss pre more i c (b, r) = (b, λ reg. λ k d below. (let h = r reg k d below in (h.0, bound_still pre more _ h.1)))

params_more : (ss : List SortMods) (pre : List Binder) (places : List ℕ) (w : Word) → AllOf (IsBoundAt pre) places → AreParams ss pre
    → (word_bound w ≡ true → MayBeBoundSort ss (word_sort w)) → AreParams ss (pre ++ binder_of places w ∷ [])
params_more ss pre places w h right may i c at = elim (split_at pre (binder_of places w ∷ []) i c at) [
  | inl here ↦ param_still ss pre (binder_of places w ∷ []) i c (right i c here)
  | inr later ↦ new later.0 later.1 later.2
]
  where
    among : (j : ℕ) → IsBoundAt pre j → (j < length pre) × IsBoundAt (pre ++ binder_of places w ∷ []) j
    among j bd = (slice_get_within pre j bd.0 bd.1, bound_still pre (binder_of places w ∷ []) j bd)

    deps : word_bound w ≡ false → All (λ j. (j < length pre) × IsBoundAt (pre ++ binder_of places w ∷ []) j) (if word_bound w then [] else places_set (word_deps w) places)
    deps reg = subst (λ v. All (λ j. (j < length pre) × IsBoundAt (pre ++ binder_of places w ∷ []) j) (if v then [] else places_set (word_deps w) places)) (sym reg)
        (all_from_each_of (λ j. (j < length pre) × IsBoundAt (pre ++ binder_of places w ∷ []) j) (places_set (word_deps w) places)
        (places_set_of (λ j. (j < length pre) × IsBoundAt (pre ++ binder_of places w ∷ []) j) (word_deps w) places
        (all_of_more (IsBoundAt pre) (λ j. (j < length pre) × IsBoundAt (pre ++ binder_of places w ∷ []) j) among places h)))

    this : IsParam ss (pre ++ binder_of places w ∷ []) (length pre) (binder_of places w)
    this = ((λ bd. (ap (λ v. if v then [] else places_set (word_deps w) places) bd, may bd)), deps)

    new : (k : ℕ) → i ≡ length pre + k → slice_get (binder_of places w ∷ []) k ≡ Some c → IsParam ss (pre ++ binder_of places w ∷ []) i c
    new zero is here =
        let place : length pre ≡ i = omega (arith, is) in
        subst (λ n. IsParam ss (pre ++ binder_of places w ∷ []) n c) place (subst (IsParam ss (pre ++ binder_of places w ∷ []) (length pre)) (one_at refl here) this)
    new (suc k) is here = absurd (none-some _ here)

-- ---- all of them

params_from : (ss : List SortMods) (pre : List Binder) (i : ℕ) (places : List ℕ) (ws : List Word) → i ≡ length pre → AllOf (IsBoundAt pre) places → AreParams ss pre
    → BoundWordsMayBeBound ss ws → AreParams ss (pre ++ binders_from i places ws)
params_from ss pre i places [] same h right may = subst (AreParams ss) (sym (append-nil pre)) right
params_from ss pre i places (w ∷ ws) same h right may =
    subst (AreParams ss) (append_assoc pre (binder_of places w ∷ []) (binders_from (suc i) (if word_bound w then places ++ i ∷ [] else places) ws))
    (params_from ss (pre ++ binder_of places w ∷ []) (suc i) (if word_bound w then places ++ i ∷ [] else places) ws (ap suc same ∙ sym (one_longer pre (binder_of places w)))
    (subst (λ n. AllOf (IsBoundAt (pre ++ binder_of places w ∷ [])) (if word_bound w then places ++ n ∷ [] else places)) (sym same) (places_more pre places w h))
    (params_more ss pre places w h right (may zero w refl)) (λ k v at. may (suc k) v at))

-- the place of a bound word, and of those after it
bounds_here : (pre : List Binder) (i : ℕ) (places : List ℕ) (w : Word) (more : List Binder) (js : List ℕ) → i ≡ length pre
    → AllOf (IsBoundAt ((pre ++ binder_of places w ∷ []) ++ more)) js
    → AllOf (IsBoundAt (pre ++ binder_of places w ∷ more)) (if word_bound w then i ∷ js else js)
bounds_here pre i places w more js same h =
    either_of (IsBoundAt (pre ++ binder_of places w ∷ more)) (word_bound w) (i ∷ js) js (λ bd. (this bd, rest)) (λ _. rest)
  where
    rest : AllOf (IsBoundAt (pre ++ binder_of places w ∷ more)) js
    rest = subst (λ bs. AllOf (IsBoundAt bs) js) (append_assoc pre (binder_of places w ∷ []) more) h

    this : word_bound w ≡ true → IsBoundAt (pre ++ binder_of places w ∷ more) i
    this bd = subst (IsBoundAt (pre ++ binder_of places w ∷ more)) (sym same)
        (subst (λ bs. IsBoundAt bs (length pre)) (append_assoc pre (binder_of places w ∷ []) more)
        (bound_still (pre ++ binder_of places w ∷ []) more (length pre) (binder_of places w, last_at pre (binder_of places w), bd)))

bounds_from : (pre : List Binder) (i : ℕ) (places : List ℕ) (ws : List Word) → i ≡ length pre
    → AllOf (IsBoundAt (pre ++ binders_from i places ws)) (bound_places i ws)
bounds_from pre i places [] same = tt
bounds_from pre i places (w ∷ ws) same =
    bounds_here pre i places w (binders_from (suc i) (if word_bound w then places ++ i ∷ [] else places) ws) (bound_places (suc i) ws) same
    (bounds_from (pre ++ binder_of places w ∷ []) (suc i) (if word_bound w then places ++ i ∷ [] else places) ws (ap suc same ∙ sym (one_longer pre (binder_of places w))))

pub words_say_parameters : WordsSayParameters
words_say_parameters ss ws may = params_from ss [] 0 [] ws refl tt (λ i c at. absurd (none-some _ at)) may

pub words_say_results : WordsSayResults
words_say_results t =
    all_from_each_of (IsBoundAt (binders_of t.params)) (places_set (word_deps t.result) (bound_places 0 t.params))
    (places_set_of (IsBoundAt (binders_of t.params)) (word_deps t.result) (bound_places 0 t.params) (bounds_from [] 0 [] t.params refl))
