-- What the logic asks passes the machine's tests: the tests' laws from right to left.
use Rattle.std.proofs.Common.{◌≡◌, ℕ, zero, suc, ◌+◌, Bool, true, false, List, [], ◌∷◌, Some, Ok, refl, sym, subst, ◌∙◌, ◌⊎◌, inl, inr, arith, eq-eqb}
use Rattle.std.specs.Prelude.{slice_get, Contains, ◌==◌, ◌||◌, not}
use Rattle.std.proofs.lemmas.Bool.{and_from}
use Rattle.mz_logic_theory.specs.Tree.{Tree, var, app}
use Rattle.mz_logic_theory.specs.Signature.{Signature}
use Rattle.mz_logic_theory.specs.Modifiers.{MayBeClaimSort, MayBeDummySort}
use Rattle.mz_logic_theory.specs.Sorts.{Fits}
use Rattle.mz_logic_theory.specs.Variables.{InV, InFV, AreDisjoint, is_member}
use Rattle.mz_logic_theory.specs.declared.binder.Binder.{Binder}
use Rattle.mz_logic_theory.specs.declared.binder.SortMods.{SortMods}
use Rattle.mz_logic_theory.proofs.Offered.{sort_is, among-true}
use Rattle.mz_machine_theory.specs.Spells.{trees_of}
use Rattle.mz_machine_theory.specs.Tests.{has_bit, is_bound_var, var_within}
use Rattle.mz_machine_theory.proofs.Offered.{operand-trees_of, bit-set, bit-not-set, is-bound, in-v-true, not-both, in-fv-true}
use Rattle.mz_machine_theory.specs.Premises.{may_be_dummy_sort, is_provable_sort, operands_fit, disjoint_from, apart_at, are_disjoint}
use Rattle.mz_machine_theory.specs.FreeVars.{in_fv, free_within}

-- ---- sorts

bit-is : (n i : ℕ) → ((has_bit n i ≡ false) → ⊥) → has_bit n i ≡ true
bit-is n i h = go (has_bit n i) refl
  where
    go : (b : Bool) → has_bit n i ≡ b → b ≡ true
    go true is = refl
    go false is = absurd (h is)

no-bit-is : (n i : ℕ) → ((has_bit n i ≡ true) → ⊥) → not (has_bit n i) ≡ true
no-bit-is n i h = go (has_bit n i) refl
  where
    go : (b : Bool) → has_bit n i ≡ b → not b ≡ true
    go true is = absurd (h is)
    go false is = refl

pub provable-passes : (ss : List SortMods) (s : ℕ) → MayBeClaimSort ss s → is_provable_sort (slice_get ss s) ≡ true
provable-passes ss s (m, at, set) = rw at (bit-is m.0 2 λ f. bit-not-set m.0 2 f set)

pub dummy-passes : (ss : List SortMods) (s : ℕ) → MayBeDummySort ss s → may_be_dummy_sort (slice_get ss s) ≡ true
dummy-passes ss s (m, at, strict-no, free-no) =
    rw at (and_from (not (has_bit m.0 1)) (not (has_bit m.0 3)) (no-bit-is m.0 1 λ t. strict-no (bit-set m.0 1 t)) (no-bit-is m.0 3 λ t. free-no (bit-set m.0 3 t)))

-- ---- operands that fit

pub fits-pass : (sigs : List Signature) (ctx : List Binder) (es : List Tree) (ps : List Binder) → Fits sigs ctx (trees_of es) ps → operands_fit sigs ctx es ps ≡ Ok tt
fits-pass sigs ctx [] ps h = refl
fits-pass sigs ctx (e ∷ es) [] h = absurd h
fits-pass sigs ctx (e ∷ es) (p ∷ ps) (has, bound, fits) =
    rw (sort_is sigs ctx e p.sort has, eq-eqb p.sort p.sort refl, bound-passes p.bound refl) (fits-pass sigs ctx es ps fits)
  where
    bound-passes : (b : Bool) → p.bound ≡ b → (not p.bound || is_bound_var ctx e) ≡ true
    bound-passes true is = rw is (is-bound ctx e (bound is))
    bound-passes false is = rw is refl

-- ---- operands that are disjoint

abbrev pair_test : List Binder → ℕ → List ℕ → Tree → ℕ → Tree → Binder → Bool
pair_test ctx i deps e j f q = not q.bound || i == j || is_member j deps || not (var_within ctx f e)

apart-from-all : (ctx : List Binder) (i : ℕ) (deps : List ℕ) (e : Tree) (j : ℕ) (fs : List Tree) (qs : List Binder)
    → ((m n : ℕ) (f : Tree) (q : Binder) → slice_get fs m ≡ Some f → slice_get qs m ≡ Some q → j + m ≡ n → pair_test ctx i deps e n f q ≡ true) → disjoint_from ctx i deps e j fs qs ≡ true
apart-from-all ctx i deps e j (f ∷ fs) (q ∷ qs) h =
    and_from (pair_test ctx i deps e j f q) (disjoint_from ctx i deps e (j + 1) fs qs) (h 0 j f q refl refl (omega arith))
    (apart-from-all ctx i deps e (j + 1) fs qs λ m n f' q' f-at q-at is. h (suc m) n f' q' f-at q-at (omega arith))
apart-from-all ctx i deps e j _ _ h = refl

apart-at-all : (ctx : List Binder) (all : List Tree) (params : List Binder) (i : ℕ) (es : List Tree) (ps : List Binder)
    → ((m n : ℕ) (e : Tree) (p : Binder) → slice_get es m ≡ Some e → slice_get ps m ≡ Some p → i + m ≡ n → disjoint_from ctx n p.deps e 0 all params ≡ true) → apart_at ctx all params i es ps ≡ true
apart-at-all ctx all params i (e ∷ es) (p ∷ ps) h =
    and_from (disjoint_from ctx i p.deps e 0 all params) (apart_at ctx all params (i + 1) es ps) (h 0 i e p refl refl (omega arith))
    (apart-at-all ctx all params (i + 1) es ps λ m n e' p' e-at p-at is. h (suc m) n e' p' e-at p-at (omega arith))
apart-at-all ctx all params i _ _ h = refl

-- the pair passes where the variable's being within leads to one of the two
pair-passes : (ctx : List Binder) (i : ℕ) (deps : List ℕ) (e : Tree) (j : ℕ) (f : Tree) (q : Binder)
    → ((x : ℕ) → f ≡ var x → q.bound ≡ true → InV ctx x e → (i ≡ j) ⊎ Contains deps j) → pair_test ctx i deps e j f q ≡ true
pair-passes ctx i deps e j f q h = go q.bound (i == j) (is_member j deps) (var_within ctx f e) refl refl refl refl
  where
    within : (f' : Tree) → f ≡ f' → q.bound ≡ true → var_within ctx f' e ≡ true → (i ≡ j) ⊎ Contains deps j
    within (var x) is bound t = h x is bound (in-v-true ctx x e t)
    within (app t es) is bound w = absurd cc

    go : (b same dep w : Bool) → q.bound ≡ b → (i == j) ≡ same → is_member j deps ≡ dep → var_within ctx f e ≡ w → (not b || same || dep || not w) ≡ true
    go true false false true b-is s-is d-is w-is = elim (within f refl b-is w-is) [
      | inl same ↦ absurd (not-both (i == j) (eq-eqb i j same) s-is)
      | inr dep ↦ absurd (not-both (is_member j deps) (among-true j deps dep) d-is)
    ]
    go _ _ _ _ b-is s-is d-is w-is = refl

pub apart-passes : (ctx : List Binder) (es : List Tree) (params : List Binder) → AreDisjoint ctx (trees_of es) params → are_disjoint ctx es params ≡ true
apart-passes ctx es params apart =
    apart-at-all ctx es params 0 es params λ m n e p e-at p-at n-is.
    let m-is : m ≡ n = omega arith in
    apart-from-all ctx n p.deps e 0 es params λ j j' f q f-at q-at j-is.
    let j-same : j ≡ j' = omega arith in
    pair-passes ctx n p.deps e j' f q λ x f-is bound within.
    subst (λ (w : ℕ). (n ≡ w) ⊎ Contains p.deps w) j-same (
    (subst (λ (w : ℕ). (w ≡ j) ⊎ Contains p.deps j) m-is
    (apart m j x p q p-at q-at bound (operand-trees_of es j f f-at ∙ f-is) (subst (InV ctx x) (sym (operand-trees_of es m e e-at)) within)))
    )

-- ---- free variables

pub free-passes : (sigs : List Signature) (ctx : List Binder) (deps : List ℕ) (e : Tree) (n : ℕ) → ((x : ℕ) → InFV sigs ctx x e → Contains deps x) → free_within sigs ctx deps e n ≡ true
free-passes sigs ctx deps e zero h = refl
free-passes sigs ctx deps e (suc n) h = and_from (not (in_fv sigs ctx n e) || is_member n deps) (free_within sigs ctx deps e n) (go (in_fv sigs ctx n e) refl) (free-passes sigs ctx deps e n h)
  where
    go : (b : Bool) → in_fv sigs ctx n e ≡ b → (not b || is_member n deps) ≡ true
    go true is = among-true n deps (h n (in-fv-true sigs ctx n e is))
    go false is = refl
