-- Each test of the machines decides a notion of the logic.
use Rattle.std.proofs.Common.{◌≡◌, ℕ, suc, Bool, true, false, cond, eqb, not, List, [], ◌∷◌, Option, Some, None, refl, sym, ap, ◌∙◌, ◌⊎◌, inl, inr, arith, eq-eqb}
use Rattle.std.specs.Prelude.{slice_get, Contains, ◌==◌, IsBitSet, bit_and, ◌^◌}
use Rattle.std.proofs.lemmas.Bool.{eqb-true, or_right, or_left}
use Rattle.mz_base.proofs.Offered.{or-cases}
use Rattle.mz_logic_theory.specs.Tree.{Tree, Trees, var, app, none, more}
use Rattle.mz_logic_theory.specs.Sorts.{IsBoundVar}
use Rattle.mz_logic_theory.specs.Variables.{InV, InSomeV, is_member}
use Rattle.mz_logic_theory.specs.declared.binder.Binder.{Binder}
use Rattle.mz_logic_theory.proofs.Offered.{among-true}
use Rattle.mz_machine_theory.specs.Tests.{has_bit, is_bound_at, is_bound_var, in_var, in_v, in_some_v}

pub not-both : (b : Bool) → b ≡ true → b ≡ false → ⊥
not-both b p q = cc

-- ---- members

pub member-contains : (x : ℕ) (xs : List ℕ) → is_member x xs ≡ true → Contains xs x
member-contains x [] h = absurd cc
member-contains x (y ∷ ys) h = elim (or-cases (eqb x y) (is_member x ys) h) [
  | inl here ↦ (0, omega arith, sym (eqb-true _ _ here))
  | inr there ↦ (let (k, lt, is) = member-contains x ys there in (suc k, omega arith, is))
]

-- ---- bits

pub bit-set : (n k : ℕ) → has_bit n k ≡ true → IsBitSet n k
bit-set n k h zero-is = not-both (not (eqb (bit_and n (2 ^ k)) 0)) h (ap not (eq-eqb (bit_and n (2 ^ k)) 0 zero-is))

pub bit-not-set : (n k : ℕ) → has_bit n k ≡ false → IsBitSet n k → ⊥
bit-not-set n k h set = set (eqb-true _ _ (back (eqb (bit_and n (2 ^ k)) 0) h))
  where
    back : (b : Bool) → not b ≡ false → b ≡ true
    back true e = refl
    back false e = absurd cc

-- ---- bound variables

pub bound-is : (ctx : List Binder) (e : Tree) → is_bound_var ctx e ≡ true → IsBoundVar ctx e
bound-is ctx (var x) h = go (slice_get ctx x) refl h
  where
    go : (o : Option Binder) → slice_get ctx x ≡ o → is_bound_at o ≡ true → IsBoundVar ctx (var x)
    go None at h = absurd cc
    go (Some b) at h = (x, b, refl, at, h)
bound-is ctx (app t es) h = absurd cc

pub is-bound : (ctx : List Binder) (e : Tree) → IsBoundVar ctx e → is_bound_var ctx e ≡ true
is-bound ctx e (x, b, is, at, bound) = rw is (ap is_bound_at at ∙ bound)

-- ---- the variables of an expression

in-var-true : (ctx : List Binder) (x y : ℕ) (o : Option Binder) → slice_get ctx y ≡ o → in_var x y o ≡ true → InV ctx x (var y)
in-var-true ctx x y None at h = absurd cc
in-var-true ctx x y (Some b) at h = go b.bound refl h
  where
    go : (v : Bool) → b.bound ≡ v → cond v (x == y) (is_member x b.deps) ≡ true → InV ctx x (var y)
    go true bound t = (b, at, inl (bound, eqb-true _ _ t))
    go false regular t = (b, at, inr (regular, member-contains x b.deps t))

in-var-of : (x y : ℕ) (b : Binder) → ((b.bound ≡ true) × (x ≡ y)) ⊎ ((b.bound ≡ false) × Contains b.deps x) → cond b.bound (x == y) (is_member x b.deps) ≡ true
in-var-of x y b (inl (bound, is)) = rw bound (eq-eqb x y is)
in-var-of x y b (inr (regular, has)) = rw regular (among-true x b.deps has)

mutual
  pub in-v-true : (ctx : List Binder) (x : ℕ) (e : Tree) → in_v ctx x e ≡ true → InV ctx x e
  in-v-true ctx x (var y) h = in-var-true ctx x y (slice_get ctx y) refl h
  in-v-true ctx x (app t es) h = in-some-v-true ctx x es h

  pub in-some-v-true : (ctx : List Binder) (x : ℕ) (es : Trees) → in_some_v ctx x es ≡ true → InSomeV ctx x es
  in-some-v-true ctx x none h = absurd cc
  in-some-v-true ctx x (more e es) h = elim (or-cases (in_v ctx x e) (in_some_v ctx x es) h) [
    | inl here ↦ inl (in-v-true ctx x e here)
    | inr there ↦ inr (in-some-v-true ctx x es there)
  ]

mutual
  pub v-in : (ctx : List Binder) (x : ℕ) (e : Tree) → InV ctx x e → in_v ctx x e ≡ true
  v-in ctx x (var y) (b, at, h) = rw at (in-var-of x y b h)
  v-in ctx x (app t es) h = some-v-in ctx x es h

  pub some-v-in : (ctx : List Binder) (x : ℕ) (es : Trees) → InSomeV ctx x es → in_some_v ctx x es ≡ true
  some-v-in ctx x none h = absurd h
  some-v-in ctx x (more e es) (inl h) = or_left (in_v ctx x e) (in_some_v ctx x es) (v-in ctx x e h)
  some-v-in ctx x (more e es) (inr h) = or_right (in_v ctx x e) (in_some_v ctx x es) (some-v-in ctx x es h)

pub not-in-v : (ctx : List Binder) (x : ℕ) (e : Tree) → in_v ctx x e ≡ false → InV ctx x e → ⊥
not-in-v ctx x e out has = not-both (in_v ctx x e) (v-in ctx x e has) out
