-- The places of bound variables, and those of them whose bits are set.
use Rattle.std.proofs.Common.{ℕ, zero, suc, ◌≡◌, ◌<◌, ◌≤◌, ◌+◌, ◌%◌, ◌/◌, ◌==◌, Bool, true, false, List, [], ◌∷◌, ◌++◌, length, slice_get, Contains, Some, refl, ap, ◌∙◌, inl, inr, arith, if◌then◌else◌}
use Rattle.std.specs.Int.{bit_at}
use Rattle.std.proofs.lemmas.Bool.{eqb-true}
use Rattle.std.proofs.lemmas.Nat.Bits.{bit_at-suc, bit_at_lowest}
use Rattle.std.proofs.lemmas.Option.{none-some}
use Rattle.mz_base.proofs.Offered.{contains_none}
use Rattle.mz_logic_theory.specs.Words.{places_set}
use Rattle.mz_logic_theory.specs.declared.binder.Binder.{Binder}
use Rattle.mz_logic_theory.proofs.Offered.{one_at, set_cases}
use Rattle.mz_store.specs.Bits.{bound_from, bound_vars}

-- ---- bound variables

-- one more variable
pub bound-from-push : (i : ℕ) (bs : List Binder) (b : Binder) → bound_from i (bs ++ b ∷ []) ≡ bound_from i bs ++ (if b.bound then (i + length bs) ∷ [] else [])
bound-from-push i [] b = ap (λ j. if b.bound then j ∷ [] else []) (omega arith)
bound-from-push i (c ∷ bs) b = go c.bound (bound-from-push (suc i) bs b ∙ ap (λ j. bound_from (suc i) bs ++ (if b.bound then j ∷ [] else [])) (omega arith))
  where
    go : (v : Bool) → bound_from (suc i) (bs ++ b ∷ []) ≡ bound_from (suc i) bs ++ (if b.bound then (i + suc (length bs)) ∷ [] else [])
        → (if v then i ∷ bound_from (suc i) (bs ++ b ∷ []) else bound_from (suc i) (bs ++ b ∷ []))
        ≡ (if v then i ∷ bound_from (suc i) bs else bound_from (suc i) bs) ++ (if b.bound then (i + suc (length bs)) ∷ [] else [])
    go true e = ap (λ ps. i ∷ ps) e
    go false e = e

pub bound-push : (ctx : List Binder) (b : Binder) → bound_vars (ctx ++ b ∷ []) ≡ bound_vars ctx ++ (if b.bound then length ctx ∷ [] else [])
bound-push ctx b = bound-from-push 0 ctx b ∙ ap (λ j. bound_vars ctx ++ (if b.bound then j ∷ [] else [])) (omega arith)

-- the places lie among those of the variables
pub bound-within : (i : ℕ) (bs : List Binder) (k x : ℕ) → slice_get (bound_from i bs) k ≡ Some x → (i ≤ x) × (x < i + length bs)
bound-within i [] k x at = absurd (none-some _ at)
bound-within i (b ∷ bs) k x at = go (λ j. bound-within (suc i) bs j x) b.bound k at
  where
    wider : (suc i ≤ x) × (x < suc i + length bs) → (i ≤ x) × (x < i + suc (length bs))
    wider (p, q) = (omega arith, omega arith)

    go : ((j : ℕ) → slice_get (bound_from (suc i) bs) j ≡ Some x → (suc i ≤ x) × (x < suc i + length bs)) → (v : Bool) (j : ℕ)
        → slice_get (if v then i ∷ bound_from (suc i) bs else bound_from (suc i) bs) j ≡ Some x → (i ≤ x) × (x < i + suc (length bs))
    go rec true zero here = (let is : i ≡ x = one_at refl here in (omega arith, omega arith))
    go rec true (suc j) here = wider (rec j here)
    go rec false j here = wider (rec j here)

-- no place stands twice
pub bound-once : (i : ℕ) (bs : List Binder) (j k x : ℕ) → slice_get (bound_from i bs) j ≡ Some x → slice_get (bound_from i bs) k ≡ Some x → j ≡ k
bound-once i [] j k x at at' = absurd (none-some _ at)
bound-once i (b ∷ bs) j k x at at' = go (λ m n. bound-once (suc i) bs m n x) b.bound j k at at'
  where
    out : (m : ℕ) → i ≡ x → slice_get (bound_from (suc i) bs) m ≡ Some x → ⊥
    out m is here = (let past : suc i ≤ x = (bound-within (suc i) bs m x here).0 in omega arith)

    go : ((m n : ℕ) → slice_get (bound_from (suc i) bs) m ≡ Some x → slice_get (bound_from (suc i) bs) n ≡ Some x → m ≡ n) → (v : Bool) (m n : ℕ)
        → slice_get (if v then i ∷ bound_from (suc i) bs else bound_from (suc i) bs) m ≡ Some x
        → slice_get (if v then i ∷ bound_from (suc i) bs else bound_from (suc i) bs) n ≡ Some x → m ≡ n
    go rec true zero zero h h' = refl
    go rec true zero (suc n) h h' = absurd (out n (one_at refl h) h')
    go rec true (suc m) zero h h' = absurd (out m (one_at refl h') h)
    go rec true (suc m) (suc n) h h' = ap suc (rec m n h h')
    go rec false m n h h' = rec m n h h'

-- ---- places whose bits are set

pub set-from : (bits : ℕ) (ps : List ℕ) (p : ℕ) → Contains (places_set bits ps) p → (k : ℕ) × (slice_get ps k ≡ Some p) × (bit_at bits k ≡ 1)
set-from bits [] p h = absurd (contains_none p h)
set-from bits (q ∷ ps) p h = elim (set_cases (bits % 2 == 1) q (places_set (bits / 2) ps) p h) [
  | inl here ↦ (0, ap Some here.1, bit_at_lowest bits ∙ eqb-true (bits % 2) 1 here.0)
  | inr rest ↦ (let (k, at, bit) = set-from (bits / 2) ps p rest in (suc k, at, bit_at-suc bits k ∙ bit))
]
