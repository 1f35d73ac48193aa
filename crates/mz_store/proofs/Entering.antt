-- What is kept with expressions stays right when a variable is entered.
use Rattle.std.proofs.Common.{ℕ, zero, suc, ◌≡◌, ◌<◌, ◌≤◌, ◌+◌, ◌^◌, ◌⊎◌, Bool, true, false, List, [], ◌∷◌, ◌++◌, length, get_or, slice_get, Contains, Some, refl, ap, sym, ◌∙◌, subst, inl, inr, arith, append-nil, length-append, if◌then◌else◌}
use Rattle.std.specs.Int.{bit_at}
use Rattle.std.proofs.lemmas.Bool.Decides.{eqb_tells}
use Rattle.std.proofs.lemmas.Nat.Bits.{bit_at-pow_same, bit_at-pow_other, bit_at_above}
use Rattle.std.proofs.lemmas.Option.{slice_get-get_or, none-some}
use Rattle.std.proofs.lemmas.Bool.{cases_lt}
use Rattle.mz_base.proofs.Offered.{slice_get-last, contains_none, slice_get-append_add}
use Rattle.mz_logic_theory.specs.Tree.{var}
use Rattle.mz_logic_theory.specs.Signature.{Signature}
use Rattle.mz_logic_theory.specs.Variables.{InV}
use Rattle.mz_logic_theory.specs.declared.binder.Binder.{Binder}
use Rattle.mz_logic_theory.proofs.Offered.{one_at, Extends, extends_append, extends_itself, sort_extends, split_at, DepsInside, place_to}
use Rattle.mz_store.specs.Bits.{Tells, HasAt, bound_vars}
use Rattle.mz_store.specs.Sharing.{Shared, Sharing, entry_of, IsOver, IsRight, DependsOn}
use Rattle.mz_store.specs.Nodes.{Made, variable, entered, binder_after, IsVariableWord}
use Rattle.mz_store.specs.declared.item.DepsMode.{DepsMode}
use Rattle.mz_store.specs.declared.item.DepsMode.TheVariants as of
use Rattle.mz_store.proofs.Places.{bound-push, bound-within, bound-once, set-from}
use Rattle.mz_store.proofs.Longer.{told-extends, told-back, told-below}
use Rattle.mz_store.proofs.Growing.{entered-begins, entry-kept, entry-new, in-cases}

-- ---- an expression of before

-- the variables that the longer context adds lie past the shorter one
abbrev pub AddsPast : List Binder → List Binder → Type 0
AddsPast ctx ctx' = (new : List ℕ) × (bound_vars ctx' ≡ bound_vars ctx ++ new) × ((j x : ℕ) → slice_get new j ≡ Some x → length ctx ≤ x)

pub tells-longer : (mode : DepsMode) (sigs : List Signature) (ctx ctx' : List Binder) → Extends ctx ctx' → AddsPast ctx ctx' → DepsInside ctx
    → (e : Shared) → IsRight mode sigs ctx e → IsRight mode sigs ctx' e
tells-longer mode sigs ctx ctx' l (new, is, past) inside e (sorted, tells) =
    (sort_extends sigs sigs ctx ctx' (extends_itself sigs) l e.tree e.sort sorted, λ k. (to k, from k))
  where
    to : (k : ℕ) → bit_at e.deps k ≡ 1 → HasAt (bound_vars ctx') (DependsOn mode sigs ctx' e.tree) k
    to k bit = (let (x, at, told) = (tells k).0 bit in
        (x, ap (λ (ps : List ℕ). slice_get ps k) is ∙ extends_append (bound_vars ctx) new k x at, told-extends mode sigs ctx ctx' l e.tree x told))

    from : (k : ℕ) → HasAt (bound_vars ctx') (DependsOn mode sigs ctx' e.tree) k → bit_at e.deps k ≡ 1
    from k (x, at, told) = go (split_at (bound_vars ctx) new k x (sym (ap (λ (ps : List ℕ). slice_get ps k) is) ∙ at))
      where
        told_before : DependsOn mode sigs ctx e.tree x
        told_before = told-back mode sigs ctx ctx' l e.tree e.sort x sorted told

        go : (slice_get (bound_vars ctx) k ≡ Some x) ⊎ ((j : ℕ) × (k ≡ length (bound_vars ctx) + j) × (slice_get new j ≡ Some x)) → bit_at e.deps k ≡ 1
        go (inl here) = (tells k).1 (x, here, told_before)
        go (inr (j, _, later)) = absurd (
            let below : x < length ctx = told-below mode sigs ctx inside e.tree e.sort x sorted told_before in
            let above : length ctx ≤ x = past j x later in
            omega arith
            )

-- ---- the variable itself

pub told-of-var : (mode : DepsMode) (sigs : List Signature) (ctx : List Binder) (places : List ℕ) (word y : ℕ)
    → Tells places word (λ x. InV ctx x (var y)) → Tells places word (DependsOn mode sigs ctx (var y))
told-of-var of.All sigs ctx places word y tells = tells
told-of-var of.Free sigs ctx places word y tells = tells

only-one : (n : ℕ) (j x : ℕ) → slice_get (n ∷ []) j ≡ Some x → (j ≡ 0) × (n ≡ x)
only-one n zero x at = (refl, one_at refl at)
only-one n (suc j) x at = absurd (none-some _ at)

pub tells-variable : (ctx : List Binder) (sort deps : ℕ) (bound : Bool) → IsVariableWord (length (bound_vars ctx)) deps bound
    → Tells (bound_vars (ctx ++ binder_after ctx sort deps bound ∷ [])) deps (λ x. InV (ctx ++ binder_after ctx sort deps bound ∷ []) x (var (length ctx)))
tells-variable ctx sort deps true (small, is) k = (to, from)
  where
    b : Binder
    b = binder_after ctx sort deps true

    places : bound_vars (ctx ++ b ∷ []) ≡ bound_vars ctx ++ length ctx ∷ []
    places = bound-push ctx b

    here : slice_get (bound_vars (ctx ++ b ∷ [])) (length (bound_vars ctx)) ≡ Some (length ctx)
    here = ap (λ (ps : List ℕ). slice_get ps (length (bound_vars ctx))) places
        ∙ ap (slice_get (bound_vars ctx ++ length ctx ∷ [])) (let e : length (bound_vars ctx) ≡ length (bound_vars ctx) + 0 = omega arith in e)
        ∙ slice_get-append_add (bound_vars ctx) (length ctx ∷ []) 0

    to : bit_at deps k ≡ 1 → HasAt (bound_vars (ctx ++ b ∷ [])) (λ x. InV (ctx ++ b ∷ []) x (var (length ctx))) k
    to bit = elim (eqb_tells k (length (bound_vars ctx))) [
      | inl same ↦ (length ctx, ap (slice_get (bound_vars (ctx ++ b ∷ []))) same.1 ∙ here, (b, slice_get-last ctx b, inl (refl, refl)))
      | inr other ↦ absurd (let off : bit_at deps k ≡ 0 = ap (λ n. bit_at n k) is ∙ bit_at-pow_other (length (bound_vars ctx)) k other.1 in omega arith)
    ]

    from : HasAt (bound_vars (ctx ++ b ∷ [])) (λ x. InV (ctx ++ b ∷ []) x (var (length ctx))) k → bit_at deps k ≡ 1
    from (x, at, (c, at', inr (regular, _))) = absurd (let same : b ≡ c = one_at (slice_get-last ctx b) at' in let e : true ≡ false = ap (λ (d : Binder). d.bound) same ∙ regular in cc)
    from (x, at, (c, at', inl (_, x_is))) = go (split_at (bound_vars ctx) (length ctx ∷ []) k x (sym (ap (λ (ps : List ℕ). slice_get ps k) places) ∙ at))
      where
        go : (slice_get (bound_vars ctx) k ≡ Some x) ⊎ ((j : ℕ) × (k ≡ length (bound_vars ctx) + j) × (slice_get (length ctx ∷ []) j ≡ Some x)) → bit_at deps k ≡ 1
        go (inl before) = absurd (let below : x < 0 + length ctx = (bound-within 0 ctx k x before).1 in omega arith)
        go (inr (j, k_is, later)) =
            let zero_is : j ≡ 0 = (only-one (length ctx) j x later).0 in
            let place : k ≡ length (bound_vars ctx) = omega arith in
            ap (λ n. bit_at n k) is ∙ ap (bit_at (2 ^ length (bound_vars ctx))) place ∙ bit_at-pow_same (length (bound_vars ctx))
tells-variable ctx sort deps false small k = (to, from)
  where
    b : Binder
    b = binder_after ctx sort deps false

    places : bound_vars (ctx ++ b ∷ []) ≡ bound_vars ctx
    places = bound-push ctx b ∙ append-nil (bound_vars ctx)

    to : bit_at deps k ≡ 1 → HasAt (bound_vars (ctx ++ b ∷ [])) (λ x. InV (ctx ++ b ∷ []) x (var (length ctx))) k
    to bit = (get_or (bound_vars ctx) k 0, ap (λ (ps : List ℕ). slice_get ps k) places ∙ at, (b, slice_get-last ctx b, inr (refl, place_to deps (bound_vars ctx) k (get_or (bound_vars ctx) k 0) at bit)))
      where
        within : k < length (bound_vars ctx)
        within = elim (cases_lt k (length (bound_vars ctx))) [
          | inl less ↦ less
          | inr past ↦ absurd (let off : bit_at deps k ≡ 0 = bit_at_above deps (length (bound_vars ctx)) k small past in omega arith)
        ]

        at : slice_get (bound_vars ctx) k ≡ Some (get_or (bound_vars ctx) k 0)
        at = slice_get-get_or (bound_vars ctx) k 0 within

    from : HasAt (bound_vars (ctx ++ b ∷ [])) (λ x. InV (ctx ++ b ∷ []) x (var (length ctx))) k → bit_at deps k ≡ 1
    from (x, at, (c, at', inl (bd, _))) = absurd (let same : b ≡ c = one_at (slice_get-last ctx b) at' in let e : false ≡ true = ap (λ (d : Binder). d.bound) same ∙ bd in cc)
    from (x, at, (c, at', inr (_, has))) =
        let same : c ≡ b = sym (one_at (slice_get-last ctx b) at') in
        let (j, at_j, bit) = set-from deps (bound_vars ctx) x (subst (λ (d : Binder). Contains d.deps x) same has) in
        let place : j ≡ k = bound-once 0 ctx j k x at_j (sym (ap (λ (ps : List ℕ). slice_get ps k) places) ∙ at) in
        subst (λ m. bit_at deps m ≡ 1) place bit

-- ---- the store

-- dependencies stay within the context
pub inside-grown : (ctx : List Binder) (sort deps : ℕ) (bound : Bool) → DepsInside ctx → DepsInside (ctx ++ binder_after ctx sort deps bound ∷ [])
inside-grown ctx sort deps bound inside i b at x has = elim (split_at ctx (binder_after ctx sort deps bound ∷ []) i b at) [
  | inl here ↦ (let below : x < length ctx = inside i b here x has in wider below)
  | inr later ↦ wider (new bound later.0 later.2)
]
  where
    wider : x < length ctx → x < length (ctx ++ binder_after ctx sort deps bound ∷ [])
    wider below = omega (arith, length-append ctx (binder_after ctx sort deps bound ∷ []))

    new : (v : Bool) (j : ℕ) → slice_get (binder_after ctx sort deps v ∷ []) j ≡ Some b → x < length ctx
    new v (suc j) is = absurd (none-some _ is)
    new true zero is = absurd (contains_none x (subst (λ (d : Binder). Contains d.deps x) (sym (one_at refl is)) has))
    new false zero is = (let (k, here, _) = set-from deps (bound_vars ctx) x (subst (λ (d : Binder). Contains d.deps x) (sym (one_at refl is)) has) in
        let below : x < 0 + length ctx = (bound-within 0 ctx k x here).1 in omega arith)

pub adds-past : (ctx : List Binder) (b : Binder) → AddsPast ctx (ctx ++ b ∷ [])
adds-past ctx b = ((if b.bound then length ctx ∷ [] else []), bound-push ctx b, past b.bound)
  where
    past : (v : Bool) (j x : ℕ) → slice_get (if v then length ctx ∷ [] else []) j ≡ Some x → length ctx ≤ x
    past true j x at = (let is : length ctx ≡ x = (only-one (length ctx) j x at).1 in omega arith)
    past false j x at = absurd (none-some _ at)

pub over-entered : (s : Sharing) (sort deps : ℕ) (bound : Bool) → DepsInside s.context → IsVariableWord (length (bound_vars s.context)) deps bound
    → (sigs : List Signature) → IsOver sigs s → IsOver sigs (entered s (record { sort = sort; deps = deps; form = variable bound }))
over-entered s sort deps bound inside word sigs over i in_i = elim (in-cases s n i in_i) [
  | inl before ↦ subst (IsRight s.mode sigs ctx') (sym (entry-kept s (entered s n) (entered-begins s n) i before))
      (tells-longer s.mode sigs s.context ctx' (extends_append s.context (b ∷ [])) (adds-past s.context b) inside (entry_of s i) (over i before))
  | inr last ↦ subst (λ j. IsRight s.mode sigs ctx' (entry_of (entered s n) j)) (sym last) (subst (IsRight s.mode sigs ctx') (sym (entry-new s n)) (
    (b, slice_get-last s.context b, refl),
    told-of-var s.mode sigs ctx' (bound_vars ctx') deps (length s.context) (tells-variable s.context sort deps bound word),
  ))
]
  where
    n : Made
    n = record { sort = sort; deps = deps; form = variable bound }

    b : Binder
    b = binder_after s.context sort deps bound

    ctx' : List Binder
    ctx' = s.context ++ b ∷ []
