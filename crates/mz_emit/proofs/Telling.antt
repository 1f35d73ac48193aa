-- The bits of the variables that are met, and of those of an expression.
use Rattle.std.proofs.Common.{ℕ, zero, suc, ◌≡◌, ◌<◌, ◌≤◌, ◌+◌, ◌-◌, ◌^◌, ◌⊎◌, ◌↔◌, min, max, Bool, true, false, List, [], ◌∷◌, length, slice_get, Contains, Some, bit_and, bit_or, w64, refl, ap, sym, ◌∙◌, subst, inl, inr, arith, if◌then◌else◌}
use Rattle.std.specs.Prelude.{IsTrue}
use Rattle.std.specs.Int.{bit_at, bit_not}
use Rattle.std.proofs.lemmas.Nat.Bits.{bit_at_or, bit_at_and, bit_at_not, bit_at_above, bit_at-zero, bit_at-lt, same_from_bits}
use Rattle.std.proofs.lemmas.Option.{none-some}
use Rattle.std.proofs.lemmas.Bool.{cases_lt}
use Rattle.mz_logic_theory.specs.Tree.{Tree, Trees, var, app, none, more}
use Rattle.mz_logic_theory.specs.Variables.{InV, InSomeV, IsBoundAt, Occurs, OccursIn}
use Rattle.mz_logic_theory.specs.declared.binder.Binder.{Binder}
use Rattle.mz_logic_theory.proofs.Offered.{one_at}
use Rattle.mz_store.specs.Bits.{HasAt, Tells, bound_from, bound_vars}
use Rattle.mz_store.proofs.Offered.{bound-has, zero-or-one}
use Rattle.mz_emit_theory.specs.SymbolicState.{from_to}
use Rattle.mz_emit_theory.specs.StreamWriting.{are_met}
use Rattle.mz_emit_theory.proofs.Offered.{all-met, met-all, has-place, own-below}
use Rattle.mz_emit_theory.specs.InReach.{InReach, AllInReach}

-- ---- words

pub tells_or : (places : List ℕ) (a b : ℕ) (P Q : ℕ → Type 0) → Tells places a P → Tells places b Q → Tells places (bit_or a b) (λ x. P x ⊎ Q x)
tells_or places a b P Q in-a in-b k = (to, from)
  where
    both : bit_at (bit_or a b) k ≡ max (bit_at a k) (bit_at b k)
    both = bit_at_or a b k

    to : bit_at (bit_or a b) k ≡ 1 → HasAt places (λ x. P x ⊎ Q x) k
    to bit = elim (zero-or-one a k) [
      | inr one ↦ (let (x, at, p) = (in-a k).0 one in (x, at, inl p))
      | inl off ↦ (let on : bit_at b k ≡ 1 = omega (arith, both, bit, off, bit_at-lt b k) in let (x, at, q) = (in-b k).0 on in (x, at, inr q))
    ]

    from : HasAt places (λ x. P x ⊎ Q x) k → bit_at (bit_or a b) k ≡ 1
    from (x, at, inl p) = (let on : bit_at a k ≡ 1 = (in-a k).1 (x, at, p) in omega (arith, both, on, bit_at-lt b k))
    from (x, at, inr q) = (let on : bit_at b k ≡ 1 = (in-b k).1 (x, at, q) in omega (arith, both, on, bit_at-lt a k))

pub tells_as : (places : List ℕ) (word : ℕ) (P Q : ℕ → Type 0) → ((k x : ℕ) → slice_get places k ≡ Some x → P x → Q x) → ((k x : ℕ) → slice_get places k ≡ Some x → Q x → P x)
    → Tells places word P → Tells places word Q
tells_as places word P Q to from tells k = (
  λ bit. (let (x, at, p) = (tells k).0 bit in (x, at, to k x at p)),
  λ has. (tells k).1 (has.0, has.1, from k has.0 has.1 has.2),
)

pub tells_none : (places : List ℕ) (P : ℕ → Type 0) → ((x : ℕ) → P x → ⊥) → Tells places 0 P
tells_none places P out k = (λ bit. absurd (let e : bit_at 0 k ≡ 0 = bit_at-zero k in omega (arith, e, bit)), λ has. absurd (out has.0 has.2))

module _ (a b : ℕ) (small-a : a < 2 ^ 64) (small-b : b < 2 ^ 64) where
  left_at : (k : ℕ) → bit_at (bit_and a (bit_not w64 b)) k ≡ min (bit_at a k) (bit_at (bit_not w64 b) k)
  left_at k = bit_at_and a (bit_not w64 b) k

  below : (k : ℕ) → bit_at a k ≡ 1 → k < 64
  below k bit = elim (cases_lt k 64) [ inl less ↦ less | inr past ↦ absurd (let e : bit_at a k ≡ 0 = bit_at_above a 64 k small-a past in omega (arith, e, bit)) ]

  other : (k : ℕ) → k < 64 → bit_at (bit_not w64 b) k ≡ 1 - bit_at b k
  other k less = bit_at_not w64 b k small-b less

  -- the bits of a are among those of b
  pub within_from : bit_and a (bit_not w64 b) ≡ 0 → (k : ℕ) → bit_at a k ≡ 1 → bit_at b k ≡ 1
  within_from nothing k bit =
      let none : bit_at (bit_and a (bit_not w64 b)) k ≡ 0 = ap (λ (n : ℕ). bit_at n k) nothing ∙ bit_at-zero k in
      let left = left_at k in let not = other k (below k bit) in omega (arith, none, left, not, bit, bit_at-lt b k)

  pub within_to : ((k : ℕ) → bit_at a k ≡ 1 → bit_at b k ≡ 1) → bit_and a (bit_not w64 b) ≡ 0
  within_to all = same_from_bits (bit_and a (bit_not w64 b)) 0 each
    where
      each : (k : ℕ) → bit_at (bit_and a (bit_not w64 b)) k ≡ bit_at 0 k
      each k = elim (zero-or-one a k) [
        | inl off ↦ (let left = left_at k in let none : bit_at 0 k ≡ 0 = bit_at-zero k in omega (arith, left, off, none))
        | inr on ↦ (let left = left_at k in let none : bit_at 0 k ≡ 0 = bit_at-zero k in let not = other k (below k on) in let in-b = all k on in omega (arith, left, none, not, in-b))
      ]

-- ---- the places of variables

pub bound_back : (i : ℕ) (bs : List Binder) (k x : ℕ) → slice_get (bound_from i bs) k ≡ Some x → (y : ℕ) × (x ≡ i + y) × IsBoundAt bs y
bound_back i [] k x at = absurd (none-some _ at)
bound_back i (b ∷ bs) k x at = go (λ j here. bound_back (suc i) bs j x here) b.bound refl k at
  where
    further : (y : ℕ) × (x ≡ suc i + y) × IsBoundAt bs y → (y : ℕ) × (x ≡ i + y) × IsBoundAt (b ∷ bs) y
    further (y, is, bd) = (suc y, omega (arith, is), bd)

    go : ((j : ℕ) → slice_get (bound_from (suc i) bs) j ≡ Some x → (y : ℕ) × (x ≡ suc i + y) × IsBoundAt bs y) → (v : Bool) → b.bound ≡ v → (j : ℕ)
        → slice_get (if v then i ∷ bound_from (suc i) bs else bound_from (suc i) bs) j ≡ Some x → (y : ℕ) × (x ≡ i + y) × IsBoundAt (b ∷ bs) y
    go rec true bd zero here = (0, (let same : i ≡ x = one_at refl here in omega (arith, same)), (b, refl, bd))
    go rec true bd (suc j) here = further (rec j here)
    go rec false bd j here = further (rec j here)

pub bound_of : (ctx : List Binder) (k x : ℕ) → slice_get (bound_vars ctx) k ≡ Some x → IsBoundAt ctx x
bound_of ctx k x at = (let (y, is, bd) = bound_back 0 ctx k x at in subst (IsBoundAt ctx) (let same : x ≡ y = omega (arith, is) in sym same) bd)

pub own_is : (ps : List Binder) (y : ℕ) → y < length ps → Contains (from_to 0 ps) y
own_is ps y lt = subst (Contains (from_to 0 ps)) (let same : 0 + y ≡ y = omega arith in same) (has-place 0 ps y lt)

pub own_in : (ps : List Binder) (y : ℕ) → Contains (from_to 0 ps) y → y < length ps
own_in ps y has = (let lt = own-below 0 ps y has in omega (arith, lt))

-- ---- variables of an expression

mutual
  pub reach_occurs : (n : ℕ) (e : Tree) → InReach n e → (y : ℕ) → Occurs y e → y < n
  reach_occurs n (var x) lt y is = omega (arith, lt, is)
  reach_occurs n (app t es) h y o = reach_occurs_in n es h y o

  reach_occurs_in : (n : ℕ) (es : Trees) → AllInReach n es → (y : ℕ) → OccursIn y es → y < n
  reach_occurs_in n none h y o = absurd o
  reach_occurs_in n (more e es) (h, hs) y (inl o) = reach_occurs n e h y o
  reach_occurs_in n (more e es) (h, hs) y (inr o) = reach_occurs_in n es hs y o

mutual
  occurs_in_v : (ctx : List Binder) (y : ℕ) → IsBoundAt ctx y → (e : Tree) → Occurs y e → InV ctx y e
  occurs_in_v ctx y (b, at, bd) (var x) is = (b, subst (λ (z : ℕ). slice_get ctx z ≡ Some b) is at, inl (bd, is))
  occurs_in_v ctx y bd (app t es) o = occurs_in_some_v ctx y bd es o

  occurs_in_some_v : (ctx : List Binder) (y : ℕ) → IsBoundAt ctx y → (es : Trees) → OccursIn y es → InSomeV ctx y es
  occurs_in_some_v ctx y bd none o = absurd o
  occurs_in_some_v ctx y bd (more e es) (inl o) = inl (occurs_in_v ctx y bd e o)
  occurs_in_some_v ctx y bd (more e es) (inr o) = inr (occurs_in_some_v ctx y bd es o)

-- no variable is regular but the first n, which depend on them
abbrev pub RegularFirst : ℕ → List Binder → Type 0
RegularFirst n ctx = (z : ℕ) (b : Binder) → slice_get ctx z ≡ Some b → b.bound ≡ false → (z < n) × ((y : ℕ) → Contains b.deps y → y < n)

module _ (n : ℕ) (ctx : List Binder) (regular : RegularFirst n ctx) (met : List ℕ) (first : (y : ℕ) → y < n → Contains met y) where
  mutual
    pub v_met : (e : Tree) → ((y : ℕ) → Occurs y e → Contains met y) → (x : ℕ) → InV ctx x e → Contains met x
    v_met (var z) all x (b, at, inl (bd, is)) = all x is
    v_met (var z) all x (b, at, inr (reg, dep)) = first x ((regular z b at reg).1 x dep)
    v_met (app t es) all x h = some_v_met es all x h

    some_v_met : (es : Trees) → ((y : ℕ) → OccursIn y es → Contains met y) → (x : ℕ) → InSomeV ctx x es → Contains met x
    some_v_met none all x h = absurd h
    some_v_met (more e es) all x (inl h) = v_met e (λ y o. all y (inl o)) x h
    some_v_met (more e es) all x (inr h) = some_v_met es (λ y o. all y (inr o)) x h

  -- a variable that isn't one of the first is bound
  pub bound_later : (y : ℕ) (b : Binder) → slice_get ctx y ≡ Some b → n ≤ y → IsBoundAt ctx y
  bound_later y b at le = (b, at, which b.bound refl)
    where
      which : (v : Bool) → b.bound ≡ v → b.bound ≡ true
      which true is = is
      which false is = absurd (let lt = (regular y b at is).0 in omega (arith, lt, le))

  -- the bits of an expression are met exactly where its variables are
  module _ (e : Tree) (there : (y : ℕ) → Occurs y e → (b : Binder) × (slice_get ctx y ≡ Some b)) (d m : ℕ)
      (in-d : Tells (bound_vars ctx) d (λ x. InV ctx x e)) (in-m : Tells (bound_vars ctx) m (Contains met)) where
    bits_to : ((k : ℕ) → bit_at d k ≡ 1 → bit_at m k ≡ 1) → are_met met e ≡ true
    bits_to all = met-all met e each
      where
        each : (y : ℕ) → Occurs y e → Contains met y
        each y o = elim (cases_lt y n) [
          | inl lt ↦ first y lt
          | inr le ↦ (let (b, at) = there y o in let bd : IsBoundAt ctx y = bound_later y b at le in let (k, at-k) = bound-has 0 ctx y bd.0 bd.1 bd.2 in
              let here : slice_get (bound_vars ctx) k ≡ Some y = at-k ∙ ap (λ (z : ℕ). Some z) (omega arith) in
              let on = all k ((in-d k).1 (y, here, occurs_in_v ctx y bd e o)) in
              let (x, at-x, has) = (in-m k).0 on in subst (Contains met) (one_at at-x here) has)
        ]

    bits_from : are_met met e ≡ true → (k : ℕ) → bit_at d k ≡ 1 → bit_at m k ≡ 1
    bits_from all k bit = (let (x, at, h) = (in-d k).0 bit in (in-m k).1 (x, at, v_met e (all-met met e all) x h))

    pub bits_tell : (r : Bool) → IsTrue r ↔ ((k : ℕ) → bit_at d k ≡ 1 → bit_at m k ≡ 1) → r ≡ are_met met e
    bits_tell r tells = same r (are_met met e) (λ is. bits_to (tells.0 is)) (λ is. tells.1 (bits_from is))
      where
        same : (a b : Bool) → (IsTrue a → b ≡ true) → (b ≡ true → IsTrue a) → a ≡ b
        same true b to from = sym (to refl)
        same false true to from = from refl
        same false false to from = refl

-- ---- one more variable

-- the bits of the first variables
pub first_bits : (n : ℕ) (ctx : List Binder) (regular : RegularFirst n ctx) (word : ℕ) → Tells (bound_vars ctx) word (λ y. (z : ℕ) × (z < n) × InV ctx y (var z)) → Tells (bound_vars ctx) word (λ y. y < n)
first_bits n ctx regular word tells = tells_as (bound_vars ctx) word (λ y. (z : ℕ) × (z < n) × InV ctx y (var z)) (λ y. y < n)
    (λ k x at h. to x h) (λ k x at lt. (let (b, b-at, bd) = bound_of ctx k x at in (x, lt, (b, b-at, inl (bd, refl))))) tells
  where
    to : (x : ℕ) → (z : ℕ) × (z < n) × InV ctx x (var z) → x < n
    to x (z, lt, (b, at, inl (bd, is))) = omega (arith, lt, is)
    to x (z, lt, (b, at, inr (reg, dep))) = (regular z b at reg).1 x dep

pub one_bit : (ctx : List Binder) (places : List ℕ) (x word : ℕ) → IsBoundAt ctx x → Tells places word (λ y. InV ctx y (var x)) → Tells places word (λ y. y ≡ x)
one_bit ctx places x word bd tells = tells_as places word (λ y. InV ctx y (var x)) (λ y. y ≡ x) (λ k y at h. to y h) (λ k y at is. (bd.0, bd.1, inl (bd.2, is))) tells
  where
    to : (y : ℕ) → InV ctx y (var x) → y ≡ x
    to y (b, at, inl (b-bd, is)) = is
    to y (b, at, inr (reg, dep)) = absurd (let same : bd.0 ≡ b = one_at bd.1 at in let e : true ≡ false = sym bd.2 ∙ ap (λ (c : Binder). c.bound) same ∙ reg in cc)
