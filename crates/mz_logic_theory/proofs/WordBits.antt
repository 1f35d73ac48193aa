-- A binder that a word says depends on the bound variables whose bits are set.
use Rattle.std.proofs.Common.{ℕ, zero, suc, ◌≡◌, ◌<◌, ◌≤◌, ◌+◌, ◌%◌, ◌/◌, ◌==◌, ◌↔◌, ◌⊎◌, Bool, true, false, List, [], ◌∷◌, ◌++◌, slice_get, length, Contains, Some, refl, sym, ap, ◌∙◌, subst, inl, inr, arith, append_assoc, if◌then◌else◌}
use Rattle.std.specs.Bool.{⊤}
use Rattle.std.specs.Int.{bit_at}
use Rattle.std.proofs.lemmas.Bool.{eqb-true, eq-eqb}
use Rattle.std.proofs.lemmas.Nat.Bits.{bit_at-suc, bit_at_lowest}
use Rattle.std.proofs.lemmas.Option.{none-some}
use Rattle.mz_base.proofs.Offered.{contains_none, contains_tail, contains_head, contains_cases, contains_at}
use Rattle.mz_logic_theory.specs.Words.{word_bound, word_deps, places_set, bound_places, binder_of, binders_from}
use Rattle.mz_logic_theory.specs.Laws.{WordsSayDependencies}
use Rattle.mz_logic_theory.specs.declared.binder.Binder.{Binder}
use Rattle.mz_logic_theory.specs.declared.word.Word.{Word}
use Rattle.mz_logic_theory.proofs.Instance.{one_at}
use Rattle.mz_logic_theory.proofs.Fresh.{split_at}

pub length-binders : (j : ℕ) (places : List ℕ) (ws : List Word) → length (binders_from j places ws) ≡ length ws
length-binders j places [] = refl
length-binders j places (w ∷ ws) = ap suc (length-binders (suc j) (if word_bound w then places ++ j ∷ [] else places) ws)

-- no place stands twice
abbrev Once : List ℕ → Type 0
Once [] = ⊤
Once (q ∷ ps) = (Contains ps q → ⊥) × Once ps

-- what is set is one of the places
pub set_cases : (v : Bool) (p : ℕ) (rs : List ℕ) (x : ℕ) → Contains (if v then p ∷ rs else rs) x → ((v ≡ true) × (p ≡ x)) ⊎ Contains rs x
set_cases true p rs x h = elim (contains_cases p x rs h) [ inl is ↦ inl (refl, is) | inr rest ↦ inr rest ]
set_cases false p rs x h = inr h

pub set_tail : (v : Bool) (p : ℕ) (rs : List ℕ) (x : ℕ) → Contains rs x → Contains (if v then p ∷ rs else rs) x
set_tail true p rs x h = contains_tail p x rs h
set_tail false p rs x h = h

pub set_head : (v : Bool) (p : ℕ) (rs : List ℕ) → v ≡ true → Contains (if v then p ∷ rs else rs) p
set_head v p rs is = subst (λ w. Contains (if w then p ∷ rs else rs) p) (sym is) (contains_head p rs)

set_among : (bits : ℕ) (ps : List ℕ) (x : ℕ) → Contains (places_set bits ps) x → Contains ps x
set_among bits [] x h = h
set_among bits (p ∷ ps) x h = elim (set_cases (bits % 2 == 1) p (places_set (bits / 2) ps) x h) [
  | inl here ↦ subst (Contains (p ∷ ps)) here.1 (contains_head p ps)
  | inr rest ↦ contains_tail p x ps (set_among (bits / 2) ps x rest)
]

-- the k-th place is set exactly where bit k is
pub place_to : (bits : ℕ) (ps : List ℕ) (k p : ℕ) → slice_get ps k ≡ Some p → bit_at bits k ≡ 1 → Contains (places_set bits ps) p
place_to bits [] k p at bit = absurd (none-some _ at)
place_to bits (q ∷ ps) zero p at bit =
    subst (Contains (places_set bits (q ∷ ps))) (one_at refl at)
    (set_head (bits % 2 == 1) q (places_set (bits / 2) ps) (eq-eqb (bits % 2) 1 (sym (bit_at_lowest bits) ∙ bit)))
place_to bits (q ∷ ps) (suc k) p at bit =
    set_tail (bits % 2 == 1) q (places_set (bits / 2) ps) p (place_to (bits / 2) ps k p at (sym (bit_at-suc bits k) ∙ bit))

place_back : (bits : ℕ) (ps : List ℕ) → Once ps → (k p : ℕ) → slice_get ps k ≡ Some p → Contains (places_set bits ps) p → bit_at bits k ≡ 1
place_back bits [] once k p at h = absurd (none-some _ at)
place_back bits (q ∷ ps) (out, once) zero p at h =
    elim (set_cases (bits % 2 == 1) q (places_set (bits / 2) ps) p h) [
      | inl here ↦ bit_at_lowest bits ∙ eqb-true (bits % 2) 1 here.0
      | inr rest ↦ absurd (out (subst (Contains ps) (sym (one_at refl at)) (set_among (bits / 2) ps p rest)))
    ]
place_back bits (q ∷ ps) (out, once) (suc k) p at h =
    elim (set_cases (bits % 2 == 1) q (places_set (bits / 2) ps) p h) [
      | inl here ↦ absurd (out (subst (Contains ps) (sym here.1) (contains_at ps k p at)))
      | inr rest ↦ bit_at-suc bits k ∙ place_back (bits / 2) ps once k p at rest
    ]

-- ---- the places of bound words ascend

abbrev Below : ℕ → List ℕ → Type 0
Below i ps = (x : ℕ) → Contains ps x → x < i

once_push : (ps : List ℕ) (i : ℕ) → Once ps → Below i ps → Once (ps ++ i ∷ [])
once_push [] i once below = (contains_none i, tt)
once_push (q ∷ ps) i (out, once) below = (λ h. not_here (last_cases ps i q h), once_push ps i once (λ x h. below x (contains_tail q x ps h)))
  where
    last_cases : (xs : List ℕ) (j x : ℕ) → Contains (xs ++ j ∷ []) x → Contains xs x ⊎ (j ≡ x)
    last_cases [] j x h = elim (contains_cases j x [] h) [ inl is ↦ inr is | inr rest ↦ absurd (contains_none x rest) ]
    last_cases (y ∷ xs) j x h = elim (contains_cases y x (xs ++ j ∷ []) h) [
      | inl is ↦ inl (subst (Contains (y ∷ xs)) is (contains_head y xs))
      | inr rest ↦ elim (last_cases xs j x rest) [ inl there ↦ inl (contains_tail y x xs there) | inr is ↦ inr is ]
    ]

    not_here : Contains ps q ⊎ (i ≡ q) → ⊥
    not_here (inl there) = out there
    not_here (inr is) = (let less : q < i = below q (contains_head q ps) in omega (arith, is))

below_push : (ps : List ℕ) (i : ℕ) → Below i ps → Below (suc i) (ps ++ i ∷ [])
below_push [] i below x h = elim (contains_cases i x [] h) [ inl is ↦ omega (arith, is) | inr rest ↦ absurd (contains_none x rest) ]
below_push (q ∷ ps) i below x h = elim (contains_cases q x (ps ++ i ∷ []) h) [
  | inl is ↦ (let less : q < i = below q (contains_head q ps) in omega (arith, is))
  | inr rest ↦ below_push ps i (λ y k. below y (contains_tail q y ps k)) x rest
]

below_more : (ps : List ℕ) (i : ℕ) → Below i ps → Below (suc i) ps
below_more ps i below x h = (let less : x < i = below x h in omega (arith, less))

-- bound places from i on are no less than i
bound_past : (i : ℕ) (ws : List Word) (x : ℕ) → Contains (bound_places i ws) x → i ≤ x
bound_past i [] x h = absurd (contains_none x h)
bound_past i (w ∷ ws) x h = elim (set_cases (word_bound w) i (bound_places (suc i) ws) x h) [
  | inl here ↦ (let is : i ≡ x = here.1 in omega (arith, is))
  | inr rest ↦ (let past : suc i ≤ x = bound_past (suc i) ws x rest in omega (arith, past))
]

-- ---- a regular word's binder

deps_from : (i : ℕ) (places : List ℕ) (ws : List Word) → Once places → Below i places → (n : ℕ) (w : Word) (b : Binder)
    → slice_get ws n ≡ Some w → word_bound w ≡ false → slice_get (binders_from i places ws) n ≡ Some b
    → (k p : ℕ) → slice_get (places ++ bound_places i ws) k ≡ Some p → p < i + n → (bit_at (word_deps w) k ≡ 1) ↔ Contains b.deps p
deps_from i places [] once below n w b at reg is k p here less = absurd (none-some _ at)
deps_from i places (v ∷ ws) once below zero w b at reg is k p here less = first (split_at places (bound_places i (v ∷ ws)) k p here)
  where
    same : v ≡ w
    same = one_at refl at

    deps_are : places_set (word_deps w) places ≡ b.deps
    deps_are =
        sym (ap (λ t. if t then [] else places_set (word_deps w) places) reg) ∙ ap (λ u. (binder_of places u).deps) (sym same) ∙ ap (λ c. c.deps) (one_at refl is)

    first : (slice_get places k ≡ Some p) ⊎ ((j : ℕ) × (k ≡ length places + j) × (slice_get (bound_places i (v ∷ ws)) j ≡ Some p))
        → (bit_at (word_deps w) k ≡ 1) ↔ Contains b.deps p
    first (inl there) = (
      λ bit. subst (λ ds. Contains ds p) deps_are (place_to (word_deps w) places k p there bit),
      λ has. place_back (word_deps w) places once k p there (subst (λ ds. Contains ds p) (sym deps_are) has),
    )
    first (inr (j, _, later)) = absurd (let past : i ≤ p = bound_past i (v ∷ ws) p (contains_at (bound_places i (v ∷ ws)) j p later) in omega (arith, past, less))
deps_from i places (v ∷ ws) once below (suc n) w b at reg is k p here less =
    next (word_bound v) (λ t. deps_from (suc i) (if t then places ++ i ∷ [] else places) ws) is here
  where
    further : p < suc i + n
    further = omega (arith, less)

    next : (t : Bool)
        → ((u : Bool) → Once (if u then places ++ i ∷ [] else places) → Below (suc i) (if u then places ++ i ∷ [] else places) → (m : ℕ) (x : Word) (c : Binder)
        → slice_get ws m ≡ Some x → word_bound x ≡ false → slice_get (binders_from (suc i) (if u then places ++ i ∷ [] else places) ws) m ≡ Some c
        → (l q : ℕ) → slice_get ((if u then places ++ i ∷ [] else places) ++ bound_places (suc i) ws) l ≡ Some q → q < suc i + m → (bit_at (word_deps x) l ≡ 1) ↔ Contains c.deps q)
        → slice_get (binders_from (suc i) (if t then places ++ i ∷ [] else places) ws) n ≡ Some b
        → slice_get (places ++ (if t then i ∷ bound_places (suc i) ws else bound_places (suc i) ws)) k ≡ Some p
        → (bit_at (word_deps w) k ≡ 1) ↔ Contains b.deps p
    next true rec is' here' =
        rec true (once_push places i once below) (below_push places i below) n w b at reg is' k p
        (subst (λ xs. slice_get xs k ≡ Some p) (sym (append_assoc places (i ∷ []) (bound_places (suc i) ws))) here') further
    next false rec is' here' = rec false once (below_more places i below) n w b at reg is' k p here' further

pub words_say_dependencies : WordsSayDependencies
words_say_dependencies ws n w b at reg is k p here less = deps_from 0 [] ws tt (λ x h. absurd (contains_none x h)) n w b at reg is k p here (omega (arith, less))
