-- Fresh variables by their places.
use Rattle.std.proofs.Common.{◌≡◌, ℕ, zero, suc, ◌+◌, ◌<◌, Bool, true, false, List, [], ◌∷◌, ◌++◌, length, map, Some, refl, sym, ap, subst, ◌∙◌, inl, inr, ◌⊎◌, arith, true≢false, eq-eqb}
use Rattle.std.specs.Prelude.{slice_get, take, Contains, ◌&&◌, ◌||◌, not, ◌==◌}
use Rattle.std.proofs.lemmas.Option.{get_or_from_slice_get}
use Rattle.mz_base.proofs.Offered.{contains_at}
use Rattle.mz_logic_theory.specs.Tree.{Tree, Trees, var}
use Rattle.mz_logic_theory.specs.Signature.{Signature}
use Rattle.mz_logic_theory.specs.Legality.{sort_of}
use Rattle.mz_logic_theory.specs.Variables.{InV, InSomeV}
use Rattle.mz_logic_theory.specs.Conversions.{IsBoundOf, AreFresh}
use Rattle.mz_logic_theory.specs.declared.binder.Binder.{Binder}
use Rattle.mz_logic_theory.proofs.Offered.{split_at}
use Rattle.mz_machine_theory.specs.Spells.{trees_of}
use Rattle.mz_machine_theory.specs.Profile.{strict}
use Rattle.mz_machine_theory.specs.Tests.{is_bound_var, in_v}
use Rattle.mz_machine_theory.specs.UnifyMachine.{within_any, is_fresh}
use Rattle.mz_machine_theory.proofs.Inverting.{some_is}
use Rattle.mz_machine_theory.proofs.TestLaws.{is-bound, in-v-true}

pub fresh-at : (ctx : List Binder) (es : Trees) (ys : List ℕ) (bs : List Binder) → AreFresh ctx es ys bs → (k : ℕ) (b : Binder) → slice_get bs k ≡ Some b → (y : ℕ) × (slice_get ys k ≡ Some y) × IsBoundOf ctx y b.sort × (InSomeV ctx y es → ⊥)
fresh-at ctx es [] [] h k b at = absurd cc
fresh-at ctx es [] (c ∷ bs) h k b at = absurd h
fresh-at ctx es (y ∷ ys) [] h k b at = absurd h
fresh-at ctx es (y ∷ ys) (c ∷ bs) (bound, out, _, h) zero b at = let is : c ≡ b = cc in (y, refl, subst (λ (z : Binder). IsBoundOf ctx y z.sort) is bound, out)
fresh-at ctx es (y ∷ ys) (c ∷ bs) (_, _, _, h) (suc k) b at = fresh-at ctx es ys bs h k b at

-- each of the variables is a bound one
pub bound-at : (ctx : List Binder) (es : Trees) (ys : List ℕ) (bs : List Binder) → AreFresh ctx es ys bs → (k y : ℕ) → slice_get ys k ≡ Some y → (s : ℕ) × IsBoundOf ctx y s
bound-at ctx es [] bs h k y at = absurd cc
bound-at ctx es (z ∷ ys) [] h k y at = absurd h
bound-at ctx es (z ∷ ys) (c ∷ bs) (bound, _, _, h) zero y at = let is : z ≡ y = cc in (c.sort, subst (λ (w : ℕ). IsBoundOf ctx w c.sort) is bound)
bound-at ctx es (z ∷ ys) (c ∷ bs) (_, _, _, h) (suc k) y at = bound-at ctx es ys bs h k y at

pub distinct : (ctx : List Binder) (es : Trees) (ys : List ℕ) (bs : List Binder) → AreFresh ctx es ys bs → (i j y : ℕ) → slice_get ys i ≡ Some y → slice_get ys j ≡ Some y → i ≡ j
distinct ctx es [] [] h i j y at-i at-j = absurd cc
distinct ctx es [] (c ∷ bs) h i j y at-i at-j = absurd h
distinct ctx es (z ∷ ys) [] h i j y at-i at-j = absurd h
distinct ctx es (z ∷ ys) (c ∷ bs) (_, _, once, h) zero zero y at-i at-j = refl
distinct ctx es (z ∷ ys) (c ∷ bs) (_, _, once, h) zero (suc j) y at-i at-j = let is : z ≡ y = cc in absurd (once (subst (Contains ys) (sym is) (contains_at ys j y at-j)))
distinct ctx es (z ∷ ys) (c ∷ bs) (_, _, once, h) (suc i) zero y at-i at-j = let is : z ≡ y = cc in absurd (once (subst (Contains ys) (sym is) (contains_at ys i y at-i)))
distinct ctx es (z ∷ ys) (c ∷ bs) (_, _, once, h) (suc i) (suc j) y at-i at-j = ap suc (distinct ctx es ys bs h i j y at-i at-j)

pub in-some : (ctx : List Binder) (x : ℕ) (es : List Tree) (i : ℕ) (e : Tree) → slice_get es i ≡ Some e → InV ctx x e → InSomeV ctx x (trees_of es)
in-some ctx x [] i e at has = absurd cc
in-some ctx x (f ∷ es) zero e at has = let is : f ≡ e = cc in inl (subst (InV ctx x) (sym is) has)
in-some ctx x (f ∷ es) (suc i) e at has = inr (in-some ctx x es i e at has)

pub get-mapped : (ys : List ℕ) (k y : ℕ) → slice_get ys k ≡ Some y → slice_get (map var ys) k ≡ Some (var y)
get-mapped [] k y at = absurd cc
get-mapped (z ∷ ys) zero y at = let is : z ≡ y = cc in ap (λ (w : ℕ). Some (var w)) is
get-mapped (z ∷ ys) (suc k) y at = get-mapped ys k y at

-- ---- the test of a fresh variable

within-none : (ctx : List Binder) (y : ℕ) (apart : List Tree) → ((i : ℕ) (e : Tree) → slice_get apart i ≡ Some e → InV ctx y e → ⊥) → within_any strict ctx (var y) apart ≡ false
within-none ctx y [] out = refl
within-none ctx y (e ∷ apart) out = go (in_v ctx y e) refl (within-none ctx y apart λ i d at. out (suc i) d at)
  where
    go : (b : Bool) → in_v ctx y e ≡ b → within_any strict ctx (var y) apart ≡ false → (b || within_any strict ctx (var y) apart) ≡ false
    go true is rest = absurd (out 0 e refl (in-v-true ctx y e is))
    go false is rest = rest

taken-at : (ys : List ℕ) (k j : ℕ) (e : Tree) → slice_get (map var (take k ys)) j ≡ Some e → (y : ℕ) × (e ≡ var y) × (slice_get ys j ≡ Some y) × (j < k)
taken-at [] zero j e at = absurd cc
taken-at [] (suc k) j e at = absurd cc
taken-at (y ∷ ys) zero j e at = absurd cc
taken-at (y ∷ ys) (suc k) zero e at = (y, (let is : var y ≡ e = cc in sym is), refl, omega arith)
taken-at (y ∷ ys) (suc k) (suc j) e at = let (z, is, z-at, lt) = taken-at ys k j e at in (z, is, z-at, omega arith)

pub take-next : (ys : List ℕ) (k y : ℕ) → slice_get ys k ≡ Some y → take (suc k) ys ≡ take k ys ++ y ∷ []
take-next [] k y at = absurd cc
take-next (z ∷ ys) zero y at = let is : z ≡ y = cc in ap (λ (w : ℕ). w ∷ []) is
take-next (z ∷ ys) (suc k) y at = ap (λ (w : List ℕ). z ∷ w) (take-next ys k y at)

-- the k-th variable passes the test against the operands and the variables before it
pub passes-fresh : (sigs : List Signature) (ctx : List Binder) (es : List Tree) (ys : List ℕ) (bs : List Binder) → AreFresh ctx (trees_of es) ys bs
    → (k y s : ℕ) → slice_get ys k ≡ Some y → IsBoundOf ctx y s → (InSomeV ctx y (trees_of es) → ⊥) → is_fresh strict sigs ctx s (var y) (es ++ map var (take k ys)) ≡ true
passes-fresh sigs ctx es ys bs fresh k y s at (b, b-at, bound, sort-is) out =
    three (is_bound_var ctx (var y)) (sort_of sigs ctx (var y) == s) (within_any strict ctx (var y) (es ++ map var (take k ys)))
    (is-bound ctx (var y) (y, b, refl, b-at, bound))
    (eq-eqb (sort_of sigs ctx (var y)) s (ap (λ (c : Binder). c.sort) (get_or_from_slice_get ctx y b _ b-at) ∙ sort-is))
    (within-none ctx y (es ++ map var (take k ys)) λ i e e-at has. go i e has (split_at es (map var (take k ys)) i e e-at))
  where
    three : (p q r : Bool) → p ≡ true → q ≡ true → r ≡ false → (p && q && not r) ≡ true
    three true true false a b c = refl
    three true true true a b c = absurd cc
    three true false r a b c = absurd cc
    three false q r a b c = absurd cc

    later : (j : ℕ) (e : Tree) → InV ctx y e → (z : ℕ) × (e ≡ var z) × (slice_get ys j ≡ Some z) × (j < k) → ⊥
    later j e has (z, is, z-at, lt) = by-var (subst (InV ctx y) is has)
      where
        by-var : InV ctx y (var z) → ⊥
        by-var (c, c-at, inl (_, same)) =
            let same-place : j ≡ k = distinct ctx (trees_of es) ys bs fresh j k y (z-at ∙ ap (λ (w : ℕ). Some w) (sym same)) at in omega arith
        by-var (c, c-at, inr (regular, _)) =
            let (_, (d, d-at, d-bound, _)) = bound-at ctx (trees_of es) ys bs fresh j z z-at in
            true≢false (sym d-bound ∙ ap (λ (w : Binder). w.bound) (some_is d-at c-at) ∙ regular)

    go : (i : ℕ) (e : Tree) → InV ctx y e → (slice_get es i ≡ Some e) ⊎ ((j : ℕ) × (i ≡ length es + j) × (slice_get (map var (take k ys)) j ≡ Some e)) → ⊥
    go i e has (inl here) = out (in-some ctx y es i e here has)
    go i e has (inr (j, _, there)) = later j e has (taken-at ys k j e there)
