-- Operands that are disjoint, tested at the places of the bound parameters alone.
use Rattle.std.proofs.Common.{◌≡◌, ◌<◌, ◌≤◌, ◌+◌, ◌/◌, ◌%◌, ℕ, zero, suc, Bool, true, false, eqb, List, [], ◌∷◌, ◌++◌, length, take, drop, Option, Some, None, Ok, refl, sym, ap, ◌∙◌, subst, arith, eq-eqb, leb-true, leb-false, max, min, add-one, append-nil, append_assoc}
use Rattle.std.specs.Prelude.{bit_and, bit_or, slice_get, ◌==◌, not, ◌||◌, ◌&&◌, nat_lt, if◌then◌else◌}
use Rattle.std.specs.Int.{bit_at}
use Rattle.std.proofs.lemmas.Bool.{eqb-true}
use Rattle.std.proofs.lemmas.Nat.Bits.{bit_at_and, bit_at_or, bit_at-zero, same_from_bits}
use Rattle.std.proofs.lemmas.Option.{slice_get_within}
use Rattle.mz_base.proofs.Offered.{slice_get-some, drop-past}
use Rattle.mz_cmd.specs.declared.rule.K.TheVariants as k
use Rattle.mz_logic_theory.specs.Tree.{Tree}
use Rattle.mz_logic_theory.specs.Signature.{Signature}
use Rattle.mz_logic_theory.specs.Legality.{sort_of}
use Rattle.mz_logic_theory.specs.Words.{word_bound, word_deps, bound_places, places_set, binder_of, binders_of}
use Rattle.mz_logic_theory.specs.declared.binder.Binder.{Binder}
use Rattle.mz_logic_theory.specs.declared.word.Word.{Word}
use Rattle.mz_logic_theory.specs.Variables.{is_member}
use Rattle.mz_store.specs.declared.item.Id.{Id}
use Rattle.mz_machine_theory.specs.Steps.{◌>>◌, need}
use Rattle.mz_machine_theory.specs.Tests.{is_bound_var, var_within}
use Rattle.mz_machine_theory.proofs.Offered.{from_then, from_need, need_ok, some_is, or-not}
use Rattle.mz_machine_theory.specs.Premises.{operands_fit, disjoint_from, apart_at}
use Rattle.mz_machine_env.proofs.FromPlaces.{next-at}
use Rattle.mz_store.proofs.Offered.{binder-at, next-binder}

-- ---- operands of bound parameters

-- where operands fit, that of a bound parameter is a bound variable
pub bound-fits : (sigs : List Signature) (ctx : List Binder) (es : List Tree) (ps : List Binder) (x : Unit {0}) → operands_fit sigs ctx es ps ≡ Ok x
    → (j : ℕ) (e : Tree) (p : Binder) → slice_get es j ≡ Some e → slice_get ps j ≡ Some p → p.bound ≡ true → is_bound_var ctx e ≡ true
bound-fits sigs ctx [] ps x h j e p at pat bd = absurd cc
bound-fits sigs ctx (f ∷ es) [] x h j e p at pat bd = absurd cc
bound-fits sigs ctx (f ∷ es) (q ∷ ps) x h zero e p at pat bd =
    from_then (need (sort_of sigs ctx f == q.sort) k.OperandSort >> need (not q.bound || is_bound_var ctx f) k.OperandBound) (operands_fit sigs ctx es ps) x h λ y front rest.
    from_need (sort_of sigs ctx f == q.sort) k.OperandSort (need (not q.bound || is_bound_var ctx f) k.OperandBound) y front λ same bound.
    let e-is : f ≡ e = cc in
    let p-is : q ≡ p = cc in
    subst (λ z. is_bound_var ctx z ≡ true) e-is (or-not q.bound (is_bound_var ctx f) (need_ok _ _ y bound) (ap (λ (b : Binder). b.bound) p-is ∙ bd))
bound-fits sigs ctx (f ∷ es) (q ∷ ps) x h (suc j) e p at pat bd =
    from_then (need (sort_of sigs ctx f == q.sort) k.OperandSort >> need (not q.bound || is_bound_var ctx f) k.OperandBound) (operands_fit sigs ctx es ps) x h λ y front rest.
    bound-fits sigs ctx es ps x rest j e p at pat bd

-- ---- dependencies that are left

none-set : (ps : List ℕ) → places_set 0 ps ≡ []
none-set [] = refl
none-set (p ∷ ps) = none-set ps

-- the places that the bits left say, of the words from the j-th on that stand before the i-th
abbrev pub deps_left : ℕ → List Word → ℕ → ℕ → List ℕ
deps_left i ws j bits = places_set bits (bound_places j (drop j (take i ws)))

abbrev pub deps_at : ℕ → List Word → Word → List ℕ
deps_at i ws w = (binder_of (bound_places 0 (take i ws)) w).deps

-- from the j-th on the bits left say what the i-th depends on
abbrev pub SaysLeft : ℕ → List Word → Word → ℕ → ℕ → Type 0
SaysLeft i ws w j bits = (m : ℕ) → j ≤ m → is_member m (deps_at i ws w) ≡ is_member m (deps_left i ws j bits)

pub says-first : (i : ℕ) (ws : List Word) (w : Word) (bits : ℕ) → bits ≡ (if word_bound w then 0 else word_deps w) → SaysLeft i ws w 0 bits
says-first i ws w bits is m from = go (word_bound w) is
  where
    go : (b : Bool) → bits ≡ (if b then 0 else word_deps w) → is_member m (if b then [] else places_set (word_deps w) (bound_places 0 (take i ws))) ≡ is_member m (places_set bits (bound_places 0 (take i ws)))
    go true e = rw (e, none-set (bound_places 0 (take i ws))) refl
    go false e = rw e refl

not-equal : (m n : ℕ) → (m ≡ n → ⊥) → eqb m n ≡ false
not-equal m n h = go (eqb m n) refl
  where
    go : (b : Bool) → eqb m n ≡ b → b ≡ false
    go true e = absurd (h (eqb-true _ _ e))
    go false e = refl

-- places before the first aren't set
set-after : (bits i : ℕ) (ws : List Word) (m : ℕ) → m < i → is_member m (places_set bits (bound_places i ws)) ≡ false
set-after bits i [] m low = refl
set-after bits i (w ∷ ws) m low = go (word_bound w) (set-after bits (suc i) ws m (omega arith)) (set-after (bits / 2) (suc i) ws m (omega arith))
  where
    one : (b : Bool) → is_member m (places_set (bits / 2) (bound_places (suc i) ws)) ≡ false
        → is_member m (if b then i ∷ places_set (bits / 2) (bound_places (suc i) ws) else places_set (bits / 2) (bound_places (suc i) ws)) ≡ false
    one true h = rw (not-equal m i (λ e. omega (arith, e, low))) h
    one false h = h

    go : (b : Bool) → is_member m (places_set bits (bound_places (suc i) ws)) ≡ false → is_member m (places_set (bits / 2) (bound_places (suc i) ws)) ≡ false
        → is_member m (places_set bits (if b then i ∷ bound_places (suc i) ws else bound_places (suc i) ws)) ≡ false
    go true h half = one (bits % 2 == 1) half
    go false h half = h

take-at : (ws : List Word) (i j : ℕ) (v : Word) → j < i → slice_get ws j ≡ Some v → slice_get (take i ws) j ≡ Some v
take-at [] i j v low at = absurd cc
take-at (w ∷ ws) zero j v low at = absurd (omega arith)
take-at (w ∷ ws) (suc i) zero v low at = at
take-at (w ∷ ws) (suc i) (suc j) v low at = take-at ws i j v (omega arith) at

take-most : (ws : List Word) (i : ℕ) → length (take i ws) ≤ i
take-most [] zero = omega arith
take-most [] (suc i) = omega arith
take-most (w ∷ ws) zero = omega arith
take-most (w ∷ ws) (suc i) = let rest = take-most ws i in omega (arith, rest)

module _ (i j : ℕ) (ws : List Word) (v : Word) (at : slice_get ws j ≡ Some v) (bits : ℕ) where
  next-left : j < i → drop j (take i ws) ≡ v ∷ drop (suc j) (take i ws)
  next-left low = next-at (take i ws) j v (take-at ws i j v low at)

  none-now : i ≤ j → drop j (take i ws) ≡ []
  none-now past = drop-past (take i ws) j (let most = take-most ws i in omega (arith, most, past))

  none-later : i ≤ j → drop (suc j) (take i ws) ≡ []
  none-later past = drop-past (take i ws) (suc j) (let most = take-most ws i in omega (arith, most, past))

  abbrev rest : List ℕ
  rest = bound_places (suc j) (drop (suc j) (take i ws))

  set-here : (b : Bool) → is_member j (if b then j ∷ places_set (bits / 2) rest else places_set (bits / 2) rest) ≡ b
  set-here true = rw (eq-eqb j j refl) refl
  set-here false = set-after (bits / 2) (suc j) (drop (suc j) (take i ws)) j (omega arith)

  set-other : (m : ℕ) → j < m → (b : Bool) → is_member m (if b then j ∷ places_set (bits / 2) rest else places_set (bits / 2) rest) ≡ is_member m (places_set (bits / 2) rest)
  set-other m low true = rw (not-equal m j (λ e. omega (arith, e, low))) refl
  set-other m low false = refl

  -- whether the lowest bit left says the j-th, where it is bound
  pub left-here : word_bound v ≡ true → is_member j (deps_left i ws j bits) ≡ (nat_lt j i && bits % 2 == 1)
  left-here bd = go (nat_lt j i) refl
    where
      go : (b : Bool) → nat_lt j i ≡ b → is_member j (deps_left i ws j bits) ≡ (b && bits % 2 == 1)
      go true is = rw (next-left (leb-true (suc j) i is), bd) (set-here (bits % 2 == 1))
      go false is = rw (none-now (omega (arith, leb-false (suc j) i is))) refl

  pub left-bound : word_bound v ≡ true → (m : ℕ) → suc j ≤ m → is_member m (deps_left i ws j bits) ≡ is_member m (deps_left i ws (suc j) (bits / 2))
  left-bound bd m low = go (nat_lt j i) refl
    where
      go : (b : Bool) → nat_lt j i ≡ b → is_member m (deps_left i ws j bits) ≡ is_member m (deps_left i ws (suc j) (bits / 2))
      go true is = rw (next-left (leb-true (suc j) i is), bd) (set-other m low (bits % 2 == 1))
      go false is = rw (none-now (omega (arith, leb-false (suc j) i is)), none-later (omega (arith, leb-false (suc j) i is))) refl

  pub left-regular : word_bound v ≡ false → (m : ℕ) → is_member m (deps_left i ws j bits) ≡ is_member m (deps_left i ws (suc j) bits)
  left-regular reg m = go (nat_lt j i) refl
    where
      go : (b : Bool) → nat_lt j i ≡ b → is_member m (deps_left i ws j bits) ≡ is_member m (deps_left i ws (suc j) bits)
      go true is = rw (next-left (leb-true (suc j) i is), reg) refl
      go false is = rw (none-now (omega (arith, leb-false (suc j) i is)), none-later (omega (arith, leb-false (suc j) i is))) refl

-- ---- one operand beside the others

module _ (ctx : List Binder) (i : ℕ) (deps : List ℕ) (e : Tree) where
  by-test : (b same dep within : Bool) (rest : Bool) → b ≡ true → ((not b || same || dep || not within) && rest) ≡ (((same || dep) || not within) && rest)
  by-test true true dep within rest bd = refl
  by-test true false dep within rest bd = refl
  by-test false same dep within rest bd = absurd cc

  -- what is found of the j-th decides, or leaves it to the others
  pub apart-next : (es : List Tree) (ws : List Word) (j : ℕ) (f : Tree) (v : Word) → slice_get es j ≡ Some f → slice_get ws j ≡ Some v
      → disjoint_from ctx i deps e j (drop j es) (drop j (binders_of ws))
      ≡ ((not (word_bound v) || i == j || is_member j deps || not (var_within ctx f e)) && disjoint_from ctx i deps e (suc j) (drop (suc j) es) (drop (suc j) (binders_of ws)))
  apart-next es ws j f v at vat = rw (next-at es j f at, next-binder ws j v vat, add-one j) refl

  pub apart-bound : (es : List Tree) (ws : List Word) (j : ℕ) (f : Tree) (v : Word) → slice_get es j ≡ Some f → slice_get ws j ≡ Some v → word_bound v ≡ true
      → (dep test : Bool) → is_member j deps ≡ dep → test ≡ ((i == j || dep) || not (var_within ctx f e))
      → disjoint_from ctx i deps e j (drop j es) (drop j (binders_of ws)) ≡ (test && disjoint_from ctx i deps e (suc j) (drop (suc j) es) (drop (suc j) (binders_of ws)))
  apart-bound es ws j f v at vat bd dep test member is =
      apart-next es ws j f v at vat
      ∙ by-test (word_bound v) (i == j) (is_member j deps) (var_within ctx f e) (disjoint_from ctx i deps e (suc j) (drop (suc j) es) (drop (suc j) (binders_of ws))) bd
      ∙ ap (λ d. ((i == j || d) || not (var_within ctx f e)) && disjoint_from ctx i deps e (suc j) (drop (suc j) es) (drop (suc j) (binders_of ws))) member
      ∙ ap (λ t. t && disjoint_from ctx i deps e (suc j) (drop (suc j) es) (drop (suc j) (binders_of ws))) (sym is)

  pub apart-regular : (es : List Tree) (ws : List Word) (j : ℕ) (f : Tree) (v : Word) → slice_get es j ≡ Some f → slice_get ws j ≡ Some v → word_bound v ≡ false
      → disjoint_from ctx i deps e j (drop j es) (drop j (binders_of ws)) ≡ disjoint_from ctx i deps e (suc j) (drop (suc j) es) (drop (suc j) (binders_of ws))
  apart-regular es ws j f v at vat reg = apart-next es ws j f v at vat ∙ rw reg refl

-- ---- the places of bound parameters

-- a bound word stands at this place, from the j-th on
abbrev StandsAt : ℕ → List Word → ℕ → Type 0
StandsAt j ws p = (n : ℕ) × (w : Word) × (p ≡ j + n) × (slice_get ws n ≡ Some w) × (word_bound w ≡ true)

stands-at : (j : ℕ) (w : Word) (ws : List Word) (p : ℕ) → ((k : ℕ) → slice_get (bound_places (suc j) ws) k ≡ Some p → StandsAt (suc j) ws p)
    → (b : Bool) → word_bound w ≡ b → (k : ℕ) → slice_get (if b then j ∷ bound_places (suc j) ws else bound_places (suc j) ws) k ≡ Some p → StandsAt j (w ∷ ws) p
stands-at j w ws p later true bd zero at = let same : j ≡ p = some_is refl at in (zero, w, omega (arith, same), refl, bd)
stands-at j w ws p later true bd (suc k) at = let (n, v, is, vat, vbd) = later k at in (suc n, v, omega (arith, is), vat, vbd)
stands-at j w ws p later false reg k at = let (n, v, is, vat, vbd) = later k at in (suc n, v, omega (arith, is), vat, vbd)

bound-word : (j : ℕ) (ws : List Word) (k p : ℕ) → slice_get (bound_places j ws) k ≡ Some p → StandsAt j ws p
bound-word j [] k p at = absurd cc
bound-word j (w ∷ ws) k p at = stands-at j w ws p (λ m there. bound-word (suc j) ws m p there) (word_bound w) refl k at

pub place-at : (ws : List Word) (places : List ℕ) → places ≡ bound_places 0 ws → (k p : ℕ) → slice_get places k ≡ Some p → (w : Word) × (slice_get ws p ≡ Some w) × (word_bound w ≡ true)
place-at ws places are k p at =
    let (n, w, is, wat, bd) = bound-word 0 ws k p (ap (λ ps. slice_get ps k) (sym are) ∙ at) in
    let same : n ≡ p = omega (arith, is) in
    (w, ap (slice_get ws) (sym same) ∙ wat, bd)

pub place-below : (ws : List Word) (places : List ℕ) → places ≡ bound_places 0 ws → (k p : ℕ) → slice_get places k ≡ Some p → p < length ws
place-below ws places are k p at = let (w, wat, _) = place-at ws places are k p at in slice_get_within ws p w wat

-- one parameter after another: those so far, followed by those of the rest
module _ (ws : List Word) (i : ℕ) (w : Word) (wat : slice_get ws i ≡ Some w) (ps all : List ℕ) (so-far : ps ++ bound_places i (drop i ws) ≡ all) where
  pub places-take : word_bound w ≡ true → (ps ++ i ∷ []) ++ bound_places (suc i) (drop (suc i) ws) ≡ all
  places-take bd = append_assoc ps (i ∷ []) (bound_places (suc i) (drop (suc i) ws)) ∙ ap (λ qs. ps ++ qs) (sym (rw (next-at ws i w wat, bd) refl)) ∙ so-far

  pub places-skip : word_bound w ≡ false → ps ++ bound_places (suc i) (drop (suc i) ws) ≡ all
  places-skip reg = ap (λ qs. ps ++ qs) (sym (rw (next-at ws i w wat, reg) refl)) ∙ so-far

pub places-all : (ws : List Word) (i : ℕ) (ps all : List ℕ) → length ws ≤ i → ps ++ bound_places i (drop i ws) ≡ all → ps ≡ all
places-all ws i ps all past so-far = sym (append-nil ps) ∙ ap (λ vs. ps ++ bound_places i vs) (sym (drop-past ws i past)) ∙ so-far

-- ---- bits that are shared

-- what shares no bit with two together shares none with either
pub shares-parts : (x a b : ℕ) → bit_and x (bit_or a b) ≡ 0 → (bit_and x a ≡ 0) × (bit_and x b ≡ 0)
shares-parts x a b none = (same_from_bits (bit_and x a) 0 left, same_from_bits (bit_and x b) 0 right)
  where
    whole : (i : ℕ) → min (bit_at x i) (max (bit_at a i) (bit_at b i)) ≡ 0
    whole i = ap (min (bit_at x i)) (sym (bit_at_or a b i)) ∙ sym (bit_at_and x (bit_or a b) i) ∙ ap (λ n. bit_at n i) none ∙ bit_at-zero i

    left : (i : ℕ) → bit_at (bit_and x a) i ≡ bit_at 0 i
    left i = let w = whole i in let z = bit_at-zero i in let e = bit_at_and x a i in omega (arith, w, z, e)

    right : (i : ℕ) → bit_at (bit_and x b) i ≡ bit_at 0 i
    right i = let w = whole i in let z = bit_at-zero i in let e = bit_at_and x b i in omega (arith, w, z, e)

-- ---- what the words of operands at such places name

module _ (told : Id → ℕ) (ids : List Id) (places : List ℕ) where
  -- of the first n places
  abbrev pub AmongFirst : ℕ → ℕ → Type 0
  AmongFirst n word = (x k p : ℕ) (id : Id) → k < n → slice_get places k ≡ Some p → slice_get ids p ≡ Some id → bit_and x word ≡ 0 → bit_and x (told id) ≡ 0

  pub among-none : (word : ℕ) → AmongFirst 0 word
  among-none word x k p id low at there none = absurd (omega (arith, low))

  pub among-next : (n word part p : ℕ) (id : Id) → slice_get places n ≡ Some p → slice_get ids p ≡ Some id → part ≡ told id → AmongFirst n word → AmongFirst (suc n) (bit_or word part)
  among-next n word part p id at there is before x k q jd low kat jat none = go (nat_lt k n) refl
    where
      go : (b : Bool) → nat_lt k n ≡ b → bit_and x (told jd) ≡ 0
      go true below = before x k q jd (leb-true (suc k) n below) kat jat (shares-parts x word part none).0
      go false past =
          let same : k ≡ n = omega (arith, low, leb-false (suc k) n past) in
          let q-is : p ≡ q = some_is at (ap (slice_get places) (sym same) ∙ kat) in
          let jd-is : id ≡ jd = some_is there (ap (slice_get ids) q-is ∙ jat) in
          ap (bit_and x) (ap told (sym jd-is) ∙ sym is) ∙ (shares-parts x word part none).1

  pub among-all : (n word : ℕ) → length places ≤ n → AmongFirst n word → (x k p : ℕ) (id : Id) → slice_get places k ≡ Some p → slice_get ids p ≡ Some id → bit_and x word ≡ 0 → bit_and x (told id) ≡ 0
  among-all n word past among x k p id at there none = among x k p id (let low : k < length places = slice_get_within places k p at in omega (arith, low, past)) at there none

-- ---- one operand beside those of bound parameters

abbrev pub within_at : List Binder → Tree → Option Tree → Bool
within_at ctx e None = false
within_at ctx e (Some f) = var_within ctx f e

-- the i-th operand, e, holds the variable of none at these places, but its own and those before it whose bits are set
abbrev pub disjoint_places : List Binder → ℕ → Tree → List Tree → ℕ → List ℕ → Bool
disjoint_places ctx i e es bits [] = true
disjoint_places ctx i e es bits (p ∷ ps) = ((i == p || (nat_lt p i && bits % 2 == 1)) || not (within_at ctx e (slice_get es p))) && disjoint_places ctx i e es (bits / 2) ps

either-way : (a b r : Bool) → b ≡ true → r ≡ true → ((a || b) && r) ≡ true
either-way true b r on rest = rest
either-way false true r on rest = rest
either-way false false r on rest = absurd cc

within-none : (ctx : List Binder) (e : Tree) (there : Option Tree) → ((f : Tree) → there ≡ Some f → var_within ctx f e ≡ false) → within_at ctx e there ≡ false
within-none ctx e None h = refl
within-none ctx e (Some f) h = h f refl

-- where none of them is in V of it, it is disjoint
pub apart-none : (ctx : List Binder) (i : ℕ) (e : Tree) (es : List Tree) (bits : ℕ) (places : List ℕ)
    → ((k p : ℕ) (f : Tree) → slice_get places k ≡ Some p → slice_get es p ≡ Some f → var_within ctx f e ≡ false) → disjoint_places ctx i e es bits places ≡ true
apart-none ctx i e es bits [] h = refl
apart-none ctx i e es bits (p ∷ ps) h =
    either-way (i == p || (nat_lt p i && bits % 2 == 1)) (not (within_at ctx e (slice_get es p))) (disjoint_places ctx i e es (bits / 2) ps)
    (ap not (within-none ctx e (slice_get es p) (λ f there. h zero p f refl there)))
    (apart-none ctx i e es (bits / 2) ps (λ k q f at there. h (suc k) q f at there))

module _ (ctx : List Binder) (es : List Tree) (ws : List Word) where
  abbrev pub row_from : ℕ → Word → Tree → ℕ → Bool
  row_from i w e j = disjoint_from ctx i (deps_at i ws w) e j (drop j es) (drop j (binders_of ws))

  abbrev pub whole_row : ℕ → Word → Tree → Bool
  whole_row i w e = disjoint_from ctx i (deps_at i ws w) e 0 es (binders_of ws)

  module _ (i : ℕ) (w : Word) (e : Tree) (j bits : ℕ) (v : Word) (vat : slice_get ws j ≡ Some v) (f : Tree) (at : slice_get es j ≡ Some f) (says : SaysLeft i ws w j bits)
      (rest : (left : ℕ) → SaysLeft i ws w (suc j) left → row_from i w e (suc j) ≡ disjoint_places ctx i e es left (bound_places (suc j) (drop (suc j) ws))) where
    by-place : (b : Bool) → word_bound v ≡ b → row_from i w e j ≡ disjoint_places ctx i e es bits (bound_places j (drop j ws))
    by-place true bd =
        apart-bound ctx i (deps_at i ws w) e es ws j f v at vat bd (nat_lt j i && bits % 2 == 1) ((i == j || (nat_lt j i && bits % 2 == 1)) || not (var_within ctx f e))
        (says j (omega arith) ∙ left-here i j ws v vat bits bd) refl
        ∙ ap (λ r. ((i == j || (nat_lt j i && bits % 2 == 1)) || not (var_within ctx f e)) && r) (rest (bits / 2) (λ m low. says m (omega (arith, low)) ∙ left-bound i j ws v vat bits bd m low))
        ∙ sym (rw (next-at ws j v vat, bd, at) refl)
    by-place false reg =
        apart-regular ctx i (deps_at i ws w) e es ws j f v at vat reg
        ∙ rest bits (λ m low. says m (omega (arith, low)) ∙ left-regular i j ws v vat bits reg m)
        ∙ sym (rw (next-at ws j v vat, reg) refl)

  by-places : length es ≡ length ws → (i : ℕ) (w : Word) (e : Tree) (n j bits : ℕ) → n + j ≡ length ws → SaysLeft i ws w j bits
      → row_from i w e j ≡ disjoint_places ctx i e es bits (bound_places j (drop j ws))
  by-places many i w e zero j bits all says = rw (drop-past es j (omega (arith, all, many)), drop-past ws j (omega (arith, all))) refl
  by-places many i w e (suc n) j bits all says =
      let (v, vat) = slice_get-some ws j (omega (arith, all)) in
      let (f, at) = slice_get-some es j (omega (arith, all, many)) in
      by-place i w e j bits v vat f at says (λ left left-says. by-places many i w e n (suc j) left (omega (arith, all)) left-says) (word_bound v) refl

  -- from the k-th place on the places decide whether the i-th operand is disjoint, by the bits that are left
  abbrev pub Decides : ℕ → Word → Tree → ℕ → List ℕ → Type 0
  Decides i w e bits places = disjoint_places ctx i e es bits places ≡ whole_row i w e

  pub decides-first : length es ≡ length ws → (i : ℕ) (w : Word) (e : Tree) (bits : ℕ) (places : List ℕ) → places ≡ bound_places 0 ws → bits ≡ (if word_bound w then 0 else word_deps w) → Decides i w e bits places
  decides-first many i w e bits places are is =
      ap (disjoint_places ctx i e es bits) are ∙ sym (by-places many i w e (length ws) 0 bits (omega arith) (says-first i ws w bits is))

  module _ (i : ℕ) (w : Word) (e : Tree) (bits : ℕ) (places : List ℕ) (j : ℕ) (decides : Decides i w e bits (drop j places)) where
    pub decides-end : length places ≤ j → whole_row i w e ≡ true
    decides-end past = sym decides ∙ ap (disjoint_places ctx i e es bits) (drop-past places j past)

    module _ (p : ℕ) (f : Tree) (at : slice_get places j ≡ Some p) (there : slice_get es p ≡ Some f) (exempt test : Bool)
        (may : exempt ≡ (i == p || (nat_lt p i && bits % 2 == 1))) (found : test ≡ (exempt || not (var_within ctx f e))) where
      by-found : disjoint_places ctx i e es bits (drop j places) ≡ (test && disjoint_places ctx i e es (bits / 2) (drop (suc j) places))
      by-found = rw (next-at places j p at, there, found, may) refl

      pub decides-not : test ≡ false → whole_row i w e ≡ false
      decides-not off = sym decides ∙ by-found ∙ ap (λ t. t && disjoint_places ctx i e es (bits / 2) (drop (suc j) places)) off

      pub decides-next : test ≡ true → Decides i w e (bits / 2) (drop (suc j) places)
      decides-next on = sym (by-found ∙ ap (λ t. t && disjoint_places ctx i e es (bits / 2) (drop (suc j) places)) on) ∙ decides

  -- the row of the i-th is what is asked of it
  pub row-asked : (i : ℕ) (w : Word) (f e : Tree) (p : Binder) → slice_get ws i ≡ Some w → slice_get es i ≡ Some f → slice_get es i ≡ Some e → slice_get (binders_of ws) i ≡ Some p
      → whole_row i w f ≡ disjoint_from ctx i p.deps e 0 es (binders_of ws)
  row-asked i w f e p wat at eat pat =
      let e-is : f ≡ e = some_is at eat in
      let p-is : binder_of (bound_places 0 (take i ws)) w ≡ p = some_is (binder-at ws i w wat) pat in
      ap (λ (q : Binder). disjoint_from ctx i q.deps f 0 es (binders_of ws)) p-is
      ∙ ap (λ (g : Tree). disjoint_from ctx i p.deps g 0 es (binders_of ws)) e-is

  -- the operand at such a place is a bound variable, where operands fit
  pub place-fits : (sigs : List Signature) (x : Unit {0}) → operands_fit sigs ctx es (binders_of ws) ≡ Ok x → (places : List ℕ) → places ≡ bound_places 0 ws → (k p : ℕ) → slice_get places k ≡ Some p
      → (f : Tree) → slice_get es p ≡ Some f → is_bound_var ctx f ≡ true
  place-fits sigs x fit places are k p at f there =
      let (w, wat, bd) = place-at ws places are k p at in
      bound-fits sigs ctx es (binders_of ws) x fit p f (binder_of (bound_places 0 (take p ws)) w) there (binder-at ws p w wat) bd

  -- ---- the operands of a row

  abbrev pub rows_from : ℕ → Bool
  rows_from i = apart_at ctx es (binders_of ws) i (drop i es) (drop i (binders_of ws))

  -- what is found of the i-th decides, or leaves it to those after it
  pub rows-at : length es ≡ length ws → (i : ℕ) → i < length ws → (test : Bool)
      → ((e : Tree) (p : Binder) → slice_get es i ≡ Some e → slice_get (binders_of ws) i ≡ Some p → test ≡ disjoint_from ctx i p.deps e 0 es (binders_of ws))
      → rows_from i ≡ (test && rows_from (suc i))
  rows-at many i low test h =
      let (w, wat) = slice_get-some ws i low in
      let (e, at) = slice_get-some es i (omega (arith, many, low)) in
      rw (next-at es i e at, next-binder ws i w wat, add-one i, h e (binder_of (bound_places 0 (take i ws)) w) at (binder-at ws i w wat)) refl
