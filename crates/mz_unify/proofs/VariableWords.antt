-- Words of variables: joined, and tested for a common one.
use Rattle.std.proofs.Common.{◌≡◌, ℕ, zero, suc, ◌+◌, ◌<◌, Bool, true, false, not, eqb, List, [], ◌∷◌, ◌++◌, take, Some, refl, sym, ap, subst, ◌∙◌, ◌⊎◌, inl, inr, add-one, arith, eq-eqb}
use Rattle.std.specs.Prelude.{◌↔◌, slice_get, bit_and, bit_or, min, max}
use Rattle.std.specs.Int.{bit_at}
use Rattle.std.proofs.lemmas.Nat.Bits.{bit_at_and, bit_at_or, bit_at-zero, bit_at-lt, same_from_bits}
use Rattle.std.proofs.lemmas.Bool.{eqb-true, or_right, or_left}
use Rattle.std.proofs.lemmas.Option.{get_or_from_slice_get}
use Rattle.mz_base.proofs.Offered.{or-cases}
use Rattle.mz_logic_theory.specs.Tree.{Tree, var, app}
use Rattle.mz_logic_theory.specs.Variables.{InV}
use Rattle.mz_logic_theory.specs.declared.binder.Binder.{Binder}
use Rattle.mz_store.specs.Bits.{HasAt, Tells, bound_vars}
use Rattle.mz_logic_theory.specs.Signature.{Signature}
use Rattle.mz_store.specs.Sharing.{Sharing, tree_of, DependsOn}
use Rattle.mz_store.specs.declared.item.Id.{Id}
use Rattle.mz_store.specs.declared.item.DepsMode.{DepsMode}
use Rattle.mz_store.specs.declared.item.DepsMode.TheVariants as of
use Rattle.mz_unify.specs.Stored.{trees_at, IsVariable, AreVariables, TellsAllOf}
use Rattle.mz_unify.specs.Rows.{InAnyV, TellsAny}
use Rattle.mz_machine_theory.specs.Profile.{strict}
use Rattle.mz_logic_theory.specs.Sorts.{HasSort, IsBoundVar}
use Rattle.mz_logic_theory.specs.Legality.{sort_of}
use Rattle.mz_store.proofs.Offered.{bound-has}
use Rattle.mz_machine_theory.specs.Tests.{in_v, is_bound_var}
use Rattle.mz_machine_theory.specs.UnifyMachine.{within_any, is_fresh}
use Rattle.mz_machine_theory.proofs.Offered.{bound-is, is-bound, in-v-true, v-in}
use Rattle.mz_unify.proofs.StoredIds.{trees-append}

pub tells-none : (places : List ℕ) (P : ℕ → Type 0) → ((x : ℕ) → P x → ⊥) → Tells places 0 P
tells-none places P none k = ((λ set. absurd (omega (arith, bit_at-zero k))), (λ (x, at, has). absurd (none x has)))

pub tells-same : (places : List ℕ) (word : ℕ) (P Q : ℕ → Type 0) → ((x : ℕ) → P x ↔ Q x) → Tells places word P → Tells places word Q
tells-same places word P Q same tells k =
    ((λ set. let (x, at, has) = (tells k).0 set in (x, at, (same x).0 has)), (λ (x, at, has). (tells k).1 (x, at, (same x).1 has)))

either-bit : (a b : ℕ) → a < 2 → b < 2 → max a b ≡ 1 → (a ≡ 1) ⊎ (b ≡ 1)
either-bit a b p q is = grind arith

bit-left : (a b : ℕ) → a < 2 → b < 2 → a ≡ 1 → max a b ≡ 1
bit-left a b p q is = omega arith

bit-right : (a b : ℕ) → a < 2 → b < 2 → b ≡ 1 → max a b ≡ 1
bit-right a b p q is = omega arith

pub tells-or : (places : List ℕ) (v w : ℕ) (P Q : ℕ → Type 0) → Tells places v P → Tells places w Q → Tells places (bit_or v w) (λ x. P x ⊎ Q x)
tells-or places v w P Q p q k = (there, back)
  where
    there : bit_at (bit_or v w) k ≡ 1 → HasAt places (λ x. P x ⊎ Q x) k
    there set = elim (either-bit (bit_at v k) (bit_at w k) (bit_at-lt v k) (bit_at-lt w k) (sym (bit_at_or v w k) ∙ set)) [
      | inl l ↦ (let (x, at, has) = (p k).0 l in (x, at, inl has))
      | inr r ↦ (let (x, at, has) = (q k).0 r in (x, at, inr has))
    ]

    back : HasAt places (λ x. P x ⊎ Q x) k → bit_at (bit_or v w) k ≡ 1
    back (x, at, inl has) = bit_at_or v w k ∙ bit-left (bit_at v k) (bit_at w k) (bit_at-lt v k) (bit_at-lt w k) ((p k).1 (x, at, has))
    back (x, at, inr has) = bit_at_or v w k ∙ bit-right (bit_at v k) (bit_at w k) (bit_at-lt v k) (bit_at-lt w k) ((q k).1 (x, at, has))

-- ---- of lists of expressions

any-append : (ctx : List Binder) (es : List Tree) (e : Tree) (x : ℕ) → InAnyV ctx (es ++ e ∷ []) x ↔ (InAnyV ctx es x ⊎ InV ctx x e)
any-append ctx [] e x = ((λ h. elim h [ inl here ↦ inr here | inr none ↦ absurd none ]), (λ h. elim h [ inl none ↦ absurd none | inr here ↦ inl here ]))
any-append ctx (f ∷ es) e x =
    let (to, from) = any-append ctx es e x in (
      (λ h. elim h [ inl here ↦ inl (inl here) | inr later ↦ elim (to later) [ inl l ↦ inl (inr l) | inr r ↦ inr r ] ]),
      (λ h. elim h [ inl l ↦ elim l [ inl here ↦ inl here | inr later ↦ inr (from (inl later)) ] | inr r ↦ inr (from (inr r)) ]),
    )

pub tells-any-push : (ctx : List Binder) (v w : ℕ) (es : List Tree) (e : Tree) → TellsAny ctx v es → Tells (bound_vars ctx) w (λ x. InV ctx x e) → TellsAny ctx (bit_or v w) (es ++ e ∷ [])
tells-any-push ctx v w es e p q =
    tells-same (bound_vars ctx) (bit_or v w) (λ x. InAnyV ctx es x ⊎ InV ctx x e) (InAnyV ctx (es ++ e ∷ [])) (λ x. let (to, from) = any-append ctx es e x in (from, to))
    (tells-or (bound_vars ctx) v w (InAnyV ctx es) (λ x. InV ctx x e) p q)

-- ---- what a store's words name

told-by : (mode : DepsMode) (sigs : List Signature) (ctx : List Binder) (word : ℕ) (e : Tree) → (mode ≡ of.All) ⊎ IsVariable e → Tells (bound_vars ctx) word (DependsOn mode sigs ctx e) → Tells (bound_vars ctx) word (λ x. InV ctx x e)
told-by of.All sigs ctx word e h tells = tells
told-by of.Free sigs ctx word e (inl all) tells = absurd cc
told-by of.Free sigs ctx word (var y) (inr h) tells = tells
told-by of.Free sigs ctx word (app t es) (inr h) tells = absurd h

variable-at : (s : Sharing) (is : List Id) (k : ℕ) (i : Id) → AreVariables s is → slice_get is k ≡ Some i → IsVariable (tree_of s i.0)
variable-at s [] k i h at = absurd cc
variable-at s (j ∷ js) zero i h at = let is : j ≡ i = cc in rw (← is) h.0
variable-at s (j ∷ js) (suc k) i h at = variable-at s js k i h.1 at

pub tells-one : (s : Sharing) (sigs : List Signature) (i : Id) (word : ℕ) → (s.mode ≡ of.All) ⊎ IsVariable (tree_of s i.0) → Tells (bound_vars s.context) word (DependsOn s.mode sigs s.context (tree_of s i.0)) → Tells (bound_vars s.context) word (λ x. InV s.context x (tree_of s i.0))
tells-one s sigs i word h tells = told-by s.mode sigs s.context word (tree_of s i.0) h tells

pub tells-at : (s : Sharing) (sigs : List Signature) (is : List Id) (k : ℕ) (i : Id) (word : ℕ) → TellsAllOf s is → slice_get is k ≡ Some i → Tells (bound_vars s.context) word (DependsOn s.mode sigs s.context (tree_of s i.0)) → Tells (bound_vars s.context) word (λ x. InV s.context x (tree_of s i.0))
tells-at s sigs is k i word (inl all) at tells = tells-one s sigs i word (inl all) tells
tells-at s sigs is k i word (inr vs) at tells = tells-one s sigs i word (inr (variable-at s is k i vs at)) tells

-- one more of the expressions is reported
pub tells-next : (s : Sharing) (sigs : List Signature) (is : List Id) (k : ℕ) (i : Id) (v w : ℕ) → TellsAllOf s is → slice_get is k ≡ Some i
    → TellsAny s.context v (trees_at s (take k is)) → Tells (bound_vars s.context) w (DependsOn s.mode sigs s.context (tree_of s i.0)) → TellsAny s.context (bit_or v w) (trees_at s (take (k + 1) is))
tells-next s sigs is k i v w all at p q =
    rw (add-one k, take-next is k i at, trees-append s (take k is) (i ∷ [])) (tells-any-push s.context v w (trees_at s (take k is)) (tree_of s i.0) p (tells-at s sigs is k i w all at q))
  where
    take-next : (xs : List Id) (n : ℕ) (x : Id) → slice_get xs n ≡ Some x → take (suc n) xs ≡ take n xs ++ x ∷ []
    take-next [] n x h = absurd cc
    take-next (y ∷ ys) zero x h = let same : y ≡ x = cc in rw same refl
    take-next (y ∷ ys) (suc n) x h = ap (λ (zs : List Id). y ∷ zs) (take-next ys n x h)

-- ---- fresh variables

-- a variable that is fresh is one, whose word names all its variables
pub tells-bound : (s : Sharing) (sigs : List Signature) (es : List Tree) (sort : ℕ) (i : Id) (word : ℕ) → is_fresh strict sigs s.context sort (tree_of s i.0) es ≡ true
    → Tells (bound_vars s.context) word (DependsOn s.mode sigs s.context (tree_of s i.0)) → Tells (bound_vars s.context) word (λ x. InV s.context x (tree_of s i.0))
tells-bound s sigs es sort i word fresh tells = tells-one s sigs i word (inr (is-variable (tree_of s i.0) fresh)) tells
  where
    is-variable : (e : Tree) → is_fresh strict sigs s.context sort e es ≡ true → IsVariable e
    is-variable (var x) h = tt
    is-variable (app t fs) h = absurd cc

-- a bound variable has a place among the bound ones
pub bound-place : (ctx : List Binder) (x : ℕ) (b : Binder) → slice_get ctx x ≡ Some b → b.bound ≡ true → (k : ℕ) × (slice_get (bound_vars ctx) k ≡ Some x)
bound-place ctx x b at bound = let (k, place) = bound-has 0 ctx x b at bound in (k, place ∙ ap (λ (n : ℕ). Some n) (omega arith))

within-is : (ctx : List Binder) (x : ℕ) (es : List Tree) → within_any strict ctx (var x) es ≡ true → InAnyV ctx es x
within-is ctx x [] h = absurd cc
within-is ctx x (e ∷ es) h = elim (or-cases (in_v ctx x e) (within_any strict ctx (var x) es) h) [
  | inl here ↦ inl (in-v-true ctx x e here)
  | inr later ↦ inr (within-is ctx x es later)
]

is-within : (ctx : List Binder) (x : ℕ) (es : List Tree) → InAnyV ctx es x → within_any strict ctx (var x) es ≡ true
is-within ctx x [] h = absurd h
is-within ctx x (e ∷ es) (inl here) = or_left (in_v ctx x e) (within_any strict ctx (var x) es) (v-in ctx x e here)
is-within ctx x (e ∷ es) (inr later) = or_right (in_v ctx x e) (within_any strict ctx (var x) es) (is-within ctx x es later)

true-false : true ≡ false → ⊥
true-false e = cc

-- a bound variable alone is in its V
its-own : (ctx : List Binder) (x : ℕ) (b : Binder) → slice_get ctx x ≡ Some b → b.bound ≡ true → (z : ℕ) → InV ctx z (var x) → z ≡ x
its-own ctx x b at bound z (c, there, inl (_, is)) = is
its-own ctx x b at bound z (c, there, inr (regular, _)) =
    let same : c ≡ b = cc in
    let is : c.bound ≡ true = ap (λ (d : Binder). d.bound) same ∙ bound in
    absurd cc

both-bits : (a b : ℕ) → a ≡ 1 → b ≡ 1 → min a b ≡ 1
both-bits a b p q = omega arith

no-bit : (a b : ℕ) → a < 2 → b < 2 → (a ≡ 1 → b ≡ 1 → ⊥) → min a b ≡ 0
no-bit zero b p q h = omega arith
no-bit (suc a) zero p q h = omega arith
no-bit (suc a) (suc b) p q h = absurd (h (omega arith) (omega arith))

module _ (ctx : List Binder) (word apart x : ℕ) (b : Binder) (es : List Tree) (at : slice_get ctx x ≡ Some b) (bound : b.bound ≡ true) (own : Tells (bound_vars ctx) word (λ z. InV ctx z (var x))) (told : TellsAny ctx apart es) where
  shared-bit : InAnyV ctx es x → bit_and word apart ≡ 0 → ⊥
  shared-bit has zero-is =
      let (k, place) = bound-place ctx x b at bound in
      let one : bit_at word k ≡ 1 = (own k).1 (x, place, (b, at, inl (bound, refl))) in
      let other : bit_at apart k ≡ 1 = (told k).1 (x, place, has) in
      let both : bit_at (bit_and word apart) k ≡ 1 = bit_at_and word apart k ∙ both-bits (bit_at word k) (bit_at apart k) one other in
      let none : bit_at (bit_and word apart) k ≡ 0 = ap (λ (n : ℕ). bit_at n k) zero-is ∙ bit_at-zero k in
      omega arith

  no-shared-bit : (InAnyV ctx es x → ⊥) → bit_and word apart ≡ 0
  no-shared-bit out = same_from_bits (bit_and word apart) 0 λ k. bit_at_and word apart k ∙ no-bit (bit_at word k) (bit_at apart k) (bit_at-lt word k) (bit_at-lt apart k) (clash k) ∙ sym (bit_at-zero k)
    where
      clash : (k : ℕ) → bit_at word k ≡ 1 → bit_at apart k ≡ 1 → ⊥
      clash k p q =
          let (z, place, in-own) = (own k).0 p in
          let (y, there, in-any) = (told k).0 q in
          let same : y ≡ z = cc in
          out (subst (InAnyV ctx es) (same ∙ its-own ctx x b at bound z in-own) in-any)

  pub apart-is : eqb (bit_and word apart) 0 ≡ not (within_any strict ctx (var x) es)
  apart-is = go (within_any strict ctx (var x) es) refl
    where
      go : (v : Bool) → within_any strict ctx (var x) es ≡ v → eqb (bit_and word apart) 0 ≡ not v
      go true is = not-zero (eqb (bit_and word apart) 0) refl
        where
          not-zero : (w : Bool) → eqb (bit_and word apart) 0 ≡ w → w ≡ false
          not-zero true e = absurd (shared-bit (within-is ctx x es is) (eqb-true _ _ e))
          not-zero false e = refl
      go false is = eq-eqb (bit_and word apart) 0 (no-shared-bit (λ has. true-false (sym (is-within ctx x es has) ∙ is)))

-- ---- what the test for a fresh variable gives

sort-is : (sigs : List Signature) (ctx : List Binder) (x s : ℕ) → HasSort sigs ctx (var x) s → sort_of sigs ctx (var x) ≡ s
sort-is sigs ctx x s (b, at, is) = ap (λ (d : Binder). d.sort) (get_or_from_slice_get ctx x b (record { sort = 0; bound = false; deps = [] }) at) ∙ is

module _ (s : Sharing) (sigs : List Signature) (es : List Tree) (i : Id) (sort : ℕ) where
  pub not-bound : (IsBoundVar s.context (tree_of s i.0) → ⊥) → is_fresh strict sigs s.context sort (tree_of s i.0) es ≡ false
  not-bound h = go (is_bound_var s.context (tree_of s i.0)) refl
    where
      go : (v : Bool) → is_bound_var s.context (tree_of s i.0) ≡ v → is_fresh strict sigs s.context sort (tree_of s i.0) es ≡ false
      go true is = absurd (h (bound-is s.context (tree_of s i.0) is))
      go false is = rw is refl

  pub other-sort : (n : ℕ) → IsBoundVar s.context (tree_of s i.0) → HasSort sigs s.context (tree_of s i.0) n → eqb n sort ≡ false → is_fresh strict sigs s.context sort (tree_of s i.0) es ≡ false
  other-sort n (x, b, is, at, bound) sorted differ =
      let its : sort_of sigs s.context (tree_of s i.0) ≡ n = ap (sort_of sigs s.context) is ∙ sort-is sigs s.context x n (subst (λ (e : Tree). HasSort sigs s.context e n) is sorted) in
      rw (is-bound s.context (tree_of s i.0) (x, b, is, at, bound), its, differ) refl

  pub fresh-word : (n word apart : ℕ) → IsBoundVar s.context (tree_of s i.0) → HasSort sigs s.context (tree_of s i.0) n → eqb n sort ≡ true
      → Tells (bound_vars s.context) word (DependsOn s.mode sigs s.context (tree_of s i.0)) → TellsAny s.context apart es
      → eqb (bit_and word apart) 0 ≡ is_fresh strict sigs s.context sort (tree_of s i.0) es
  fresh-word n word apart (x, b, is, at, bound) sorted same own told =
      let its : sort_of sigs s.context (tree_of s i.0) ≡ n = ap (sort_of sigs s.context) is ∙ sort-is sigs s.context x n (subst (λ (e : Tree). HasSort sigs s.context e n) is sorted) in
      let all : Tells (bound_vars s.context) word (λ z. InV s.context z (tree_of s i.0)) = tells-one s sigs i word (inr (subst IsVariable (sym is) tt)) own in
      let mine : Tells (bound_vars s.context) word (λ z. InV s.context z (var x)) = subst (λ (e : Tree). Tells (bound_vars s.context) word (λ z. InV s.context z e)) is all in
      let sep : eqb (bit_and word apart) 0 ≡ not (within_any strict s.context (tree_of s i.0) es) = apart-is s.context word apart x b es at bound mine told ∙ ap (λ (e : Tree). not (within_any strict s.context e es)) (sym is) in
      rw (is-bound s.context (tree_of s i.0) (x, b, is, at, bound), its, same) sep
