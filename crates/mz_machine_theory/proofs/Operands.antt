-- What the operands of a row are, where its premises hold.
use Rattle.std.proofs.Common.{◌≡◌, ℕ, zero, suc, ◌+◌, ◌<◌, Bool, true, false, List, [], ◌∷◌, length, Option, Some, None, Ok, refl, sym, ap, subst, ◌∙◌, ◌⊎◌, inl, inr, arith}
use Rattle.std.specs.Prelude.{slice_get, ◌==◌, ◌||◌, not}
use Rattle.std.proofs.lemmas.Bool.{eqb-true}
use Rattle.std.proofs.lemmas.Option.{slice_get_within}
use Rattle.mz_base.proofs.Offered.{both-true, not-true}
use Rattle.mz_cmd.specs.declared.rule.K.TheVariants as k
use Rattle.mz_logic_theory.specs.Tree.{Tree, var, operand}
use Rattle.mz_logic_theory.specs.Signature.{Signature}
use Rattle.mz_logic_theory.specs.Modifiers.{MayBeClaimSort, MayBeDummySort}
use Rattle.mz_logic_theory.specs.Sorts.{HasSort, Fits}
use Rattle.mz_logic_theory.specs.Variables.{AreDisjoint, is_member}
use Rattle.mz_logic_theory.specs.Legality.{sort_of}
use Rattle.mz_logic_theory.specs.declared.binder.Binder.{Binder}
use Rattle.mz_logic_theory.specs.declared.binder.SortMods.{SortMods}
use Rattle.mz_logic_theory.proofs.Offered.{sort_is}
use Rattle.mz_machine_theory.specs.Steps.{◌>>◌, need}
use Rattle.mz_machine_theory.specs.Spells.{trees_of}
use Rattle.mz_machine_theory.specs.Sorted.{AllSorted}
use Rattle.mz_machine_theory.specs.Tests.{has_bit, is_bound_var, in_v, var_within}
use Rattle.mz_machine_theory.proofs.Inverting.{from_then, from_need, need_ok}
use Rattle.mz_machine_theory.proofs.TestLaws.{member-contains, bit-set, bit-not-set, bound-is, v-in}
use Rattle.mz_machine_theory.specs.Premises.{may_be_dummy_sort, is_provable_sort, operands_fit, disjoint_from, apart_at, are_disjoint}

-- ---- sorts

pub provable-sort : (ss : List SortMods) (s : ℕ) → is_provable_sort (slice_get ss s) ≡ true → MayBeClaimSort ss s
provable-sort ss s h = go (slice_get ss s) refl h
  where
    go : (o : Option SortMods) → slice_get ss s ≡ o → is_provable_sort o ≡ true → MayBeClaimSort ss s
    go None at t = absurd cc
    go (Some m) at t = (m, at, bit-set m.0 2 t)

pub dummy-sort : (ss : List SortMods) (s : ℕ) → may_be_dummy_sort (slice_get ss s) ≡ true → MayBeDummySort ss s
dummy-sort ss s h = go (slice_get ss s) refl h
  where
    go : (o : Option SortMods) → slice_get ss s ≡ o → may_be_dummy_sort o ≡ true → MayBeDummySort ss s
    go None at t = absurd cc
    go (Some m) at t =
        let (strict-no, free-no) = both-true (not (has_bit m.0 1)) (not (has_bit m.0 3)) t in
        (m, at, bit-not-set m.0 1 (not-true (has_bit m.0 1) strict-no), bit-not-set m.0 3 (not-true (has_bit m.0 3) free-no))

-- ---- operands that fit

pub or-not : (a b : Bool) → (not a || b) ≡ true → a ≡ true → b ≡ true
or-not true b h t = h
or-not false b h t = absurd cc

-- operands of which there are enough fit, where the tests pass
pub fits-from : (sigs : List Signature) (ctx : List Binder) (es : List Tree) (ps : List Binder) (x : Unit {0})
    → operands_fit sigs ctx es ps ≡ Ok x → length es ≡ length ps → AllSorted sigs ctx es → Fits sigs ctx (trees_of es) ps
fits-from sigs ctx [] [] x h len sorted = tt
fits-from sigs ctx [] (p ∷ ps) x h len sorted = absurd (omega arith)
fits-from sigs ctx (e ∷ es) [] x h len sorted = absurd (omega arith)
fits-from sigs ctx (e ∷ es) (p ∷ ps) x h len ((s, has), sorted) =
    from_then (need (sort_of sigs ctx e == p.sort) k.OperandSort >> need (not p.bound || is_bound_var ctx e) k.OperandBound) (operands_fit sigs ctx es ps) x h λ y front rest.
    from_need (sort_of sigs ctx e == p.sort) k.OperandSort (need (not p.bound || is_bound_var ctx e) k.OperandBound) y front λ same bound.
    let sort-same : s ≡ p.sort = sym (sort_is sigs ctx e s has) ∙ eqb-true _ _ same in
    (subst (HasSort sigs ctx e) sort-same has, λ t. bound-is ctx e (or-not p.bound _ (need_ok _ _ y bound) t), fits-from sigs ctx es ps x rest (omega arith) sorted)

-- ---- operands that are disjoint

operand-at : (es : List Tree) (i : ℕ) → i < length es → slice_get es i ≡ Some (operand (trees_of es) i)
operand-at [] i lt = absurd (omega arith)
operand-at (e ∷ es) zero lt = refl
operand-at (e ∷ es) (suc i) lt = operand-at es i (omega arith)

abbrev pair_test : List Binder → ℕ → List ℕ → Tree → ℕ → Tree → Binder → Bool
pair_test ctx i deps e j f q = not q.bound || i == j || is_member j deps || not (var_within ctx f e)

apart-from-each : (ctx : List Binder) (i : ℕ) (deps : List ℕ) (e : Tree) (j : ℕ) (fs : List Tree) (qs : List Binder) (m n : ℕ) (f : Tree) (q : Binder)
    → disjoint_from ctx i deps e j fs qs ≡ true → slice_get fs m ≡ Some f → slice_get qs m ≡ Some q → j + m ≡ n → pair_test ctx i deps e n f q ≡ true
apart-from-each ctx i deps e j [] qs m n f q h fs-at qs-at at = absurd cc
apart-from-each ctx i deps e j (g ∷ fs) [] m n f q h fs-at qs-at at = absurd cc
apart-from-each ctx i deps e j (g ∷ fs) (r ∷ qs) zero n f q h fs-at qs-at at =
    let first = (both-true (pair_test ctx i deps e j g r) _ h).0 in
    let f-is : g ≡ f = cc in
    let q-is : r ≡ q = cc in
    let n-is : j ≡ n = omega arith in
    rw (← f-is, ← q-is, ← n-is) first
apart-from-each ctx i deps e j (g ∷ fs) (r ∷ qs) (suc m) n f q h fs-at qs-at at =
    apart-from-each ctx i deps e (j + 1) fs qs m n f q (both-true (pair_test ctx i deps e j g r) _ h).1 fs-at qs-at (omega arith)

apart-at-each : (ctx : List Binder) (all : List Tree) (params : List Binder) (i : ℕ) (es : List Tree) (ps : List Binder) (m n : ℕ) (e : Tree) (p : Binder)
    → apart_at ctx all params i es ps ≡ true → slice_get es m ≡ Some e → slice_get ps m ≡ Some p → i + m ≡ n → disjoint_from ctx n p.deps e 0 all params ≡ true
apart-at-each ctx all params i [] ps m n e p h es-at ps-at at = absurd cc
apart-at-each ctx all params i (g ∷ es) [] m n e p h es-at ps-at at = absurd cc
apart-at-each ctx all params i (g ∷ es) (r ∷ ps) zero n e p h es-at ps-at at =
    let first = (both-true (disjoint_from ctx i r.deps g 0 all params) _ h).0 in
    let e-is : g ≡ e = cc in
    let p-is : r ≡ p = cc in
    let n-is : i ≡ n = omega arith in
    rw (← e-is, ← p-is, ← n-is) first
apart-at-each ctx all params i (g ∷ es) (r ∷ ps) (suc m) n e p h es-at ps-at at =
    apart-at-each ctx all params (i + 1) es ps m n e p (both-true (disjoint_from ctx i r.deps g 0 all params) _ h).1 es-at ps-at (omega arith)

pair-means : (bound same dep within : Bool) → (not bound || same || dep || not within) ≡ true → bound ≡ true → within ≡ true → (same ≡ true) ⊎ (dep ≡ true)
pair-means true true dep true h b w = inl refl
pair-means true false true true h b w = inr refl
pair-means true false false true h b w = absurd cc
pair-means true same dep false h b w = absurd cc
pair-means false same dep within h b w = absurd cc

pub apart-from-test : (ctx : List Binder) (es : List Tree) (params : List Binder) → length es ≡ length params → are_disjoint ctx es params ≡ true → AreDisjoint ctx (trees_of es) params
apart-from-test ctx es params len h i j x p q p-at q-at bound x-at within =
    let i-in : i < length params = slice_get_within params i p p-at in
    let j-in : j < length params = slice_get_within params j q q-at in
    let e : Tree = operand (trees_of es) i in
    let row = apart-at-each ctx es params 0 es params i i e p h (operand-at es i (omega arith)) p-at (omega arith) in
    let pair = apart-from-each ctx i p.deps e 0 es params j j (var x) q row (operand-at es j (omega arith) ∙ ap (λ (z : Tree). Some z) x-at) q-at (omega arith) in
    elim (pair-means q.bound (i == j) (is_member j p.deps) (in_v ctx x e) pair bound (v-in ctx x e within)) [
      | inl same ↦ inl (eqb-true _ _ same)
      | inr dep ↦ inr (member-contains j p.deps dep)
    ]
