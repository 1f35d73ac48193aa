-- At the start: the parameters are right, and their machine is the body's start.
use Rattle.std.proofs.Common.{◌≡◌, ℕ, zero, suc, ◌+◌, ◌<◌, ◌≤◌, Bool, true, false, cond, eqb, List, [], ◌∷◌, ◌++◌, length, map, Some, refl, sym, ap, subst, ◌∙◌, arith, eq-eqb, not-suc-le-zero, length-append}
use Rattle.std.specs.Prelude.{slice_get, Contains}
use Rattle.std.proofs.lemmas.Bool.{eqb-true}
use Rattle.std.proofs.lemmas.Option.{get_or_from_slice_get}
use Rattle.mz_base.proofs.Offered.{one-further as shift}
use Rattle.mz_logic_theory.specs.Tree.{Tree, var}
use Rattle.mz_logic_theory.specs.Signature.{Signature}
use Rattle.mz_logic_theory.specs.Legality.{binder_at}
use Rattle.mz_logic_theory.specs.declared.binder.Binder.{Binder}
use Rattle.mz_logic_theory.proofs.Offered.{extends_append}
use Rattle.mz_machine_theory.specs.Spells.{variables_from}
use Rattle.mz_machine_theory.specs.Profile.{strict, Item, expr}
use Rattle.mz_machine_theory.specs.MachineState.{State, Heading}
use Rattle.mz_machine_theory.specs.ProofMachine.{own_variables}
use Rattle.mz_machine_theory.specs.Bodies.{body_start}
use Rattle.mz_emit_theory.specs.SymbolicState.{item_renamed, place_of, name_in, from_to, work_start, machine}
use Rattle.mz_emit_theory.specs.BodyLaws.{AreRightItems, OwnNames, AreOnce, IsRight}

plus-zero : (a : ℕ) → a + 0 ≡ a
plus-zero a = omega arith

zero-plus : (a : ℕ) → 0 + a ≡ a
zero-plus a = omega arith

-- the places from j on
pub own-below : (j : ℕ) (ps : List Binder) (x : ℕ) → Contains (from_to j ps) x → x < j + length ps
own-below j [] x (k, lt, is) = absurd (omega (arith, lt))
own-below j (p ∷ ps) x (zero, lt, is) = omega (arith, is)
own-below j (p ∷ ps) x (suc k, lt, is) = (let h = own-below (suc j) ps x (k, omega (arith, lt), is) in omega (arith, h))

pub has-place : (j : ℕ) (ps : List Binder) (i : ℕ) → i < length ps → Contains (from_to j ps) (j + i)
has-place j [] i lt = absurd (omega arith)
has-place j (p ∷ ps) zero lt = (0, omega arith, sym (plus-zero j))
has-place j (p ∷ ps) (suc i) lt =
    let (k, k-lt, is) = has-place (suc j) ps i (omega arith) in
    subst (Contains (from_to j (p ∷ ps))) (shift j i) (suc k, omega arith, is)

names : (j : ℕ) (ps : List Binder) (i : ℕ) → i < length ps → place_of (j + i) (from_to j ps) ≡ i
names j [] i lt = absurd (omega arith)
names j (p ∷ ps) zero lt = rw (eq-eqb (j + 0) j (plus-zero j)) refl
names j (p ∷ ps) (suc i) lt = go (eqb (j + suc i) j) refl (ap (λ (z : ℕ). place_of z (from_to (suc j) ps)) (sym (shift j i)) ∙ names (suc j) ps i (omega arith))
  where
    go : (b : Bool) → eqb (j + suc i) j ≡ b → place_of (j + suc i) (from_to (suc j) ps) ≡ i → cond b 0 (suc (place_of (j + suc i) (from_to (suc j) ps))) ≡ suc i
    go true is e = absurd (let same : j + suc i ≡ j = eqb-true _ _ is in omega arith)
    go false is e = ap suc e

pub within : (j : ℕ) (ps : List Binder) (x : ℕ) → Contains (from_to j ps) x → (j ≤ x) × (x < j + length ps)
within j [] x (k, lt, is) = absurd (not-suc-le-zero lt)
within j (p ∷ ps) x (zero, lt, is) = (omega (arith, is), omega (arith, is))
within j (p ∷ ps) x (suc k, lt, is) = let (low, high) = within (suc j) ps x (k, omega arith, is) in (omega arith, omega arith)

once : (j : ℕ) (ps : List Binder) → AreOnce (from_to j ps)
once j [] = tt
once j (p ∷ ps) = ((λ has. let (low, high) = within (suc j) ps j has in absurd (omega arith)), once (suc j) ps)

module _ (sigs : List Signature) (params dummies : List Binder) where
  abbrev ctx : List Binder
  ctx = params ++ dummies

  abbrev met : List ℕ
  met = from_to 0 params

  own-names : OwnNames (length params) met
  own-names x lt = (subst (Contains met) (zero-plus x) (has-place 0 params x lt), ap (λ (z : ℕ). place_of z met) (sym (zero-plus x)) ∙ names 0 params x lt)

  right-variables : (j : ℕ) (ps : List Binder) → ((i : ℕ) (b : Binder) → slice_get ps i ≡ Some b → slice_get ctx (j + i) ≡ Some b) → ((i : ℕ) → i < length ps → Contains met (j + i))
      → AreRightItems sigs ctx met (map expr (variables_from j ps))
  right-variables j [] at has = tt
  right-variables j (p ∷ ps) at has = (
    ((p.sort, (p, ap (slice_get ctx) (sym (plus-zero j)) ∙ at 0 p refl, refl)), (λ y o. subst (Contains met) (plus-zero j ∙ sym o) (has 0 (omega arith)))),
    right-variables (suc j) ps (λ i b b-at. ap (slice_get ctx) (shift j i) ∙ at (suc i) b b-at) (λ i lt. subst (Contains met) (sym (shift j i)) (has (suc i) (omega arith))),
  )

  pub start-right : IsRight sigs (length params) ctx (work_start params)
  start-right = record {
    own = own-names;
    once = once 0 params;
    inside = λ x has. (let (low, high) = within 0 params x has in let many = length-append params dummies in omega (arith, many));
    heap = right-variables 0 params (λ i b b-at. ap (slice_get ctx) (zero-plus i) ∙ extends_append params dummies i b b-at) (has-place 0 params);
    stack = tt;
    hyps = tt;
  }

  -- ---- the machine at the start

  ctx-is : (j : ℕ) (ps : List Binder) → ((i : ℕ) (b : Binder) → slice_get ps i ≡ Some b → slice_get ctx (j + i) ≡ Some b) → map (binder_at ctx) (from_to j ps) ≡ ps
  ctx-is j [] at = refl
  ctx-is j (p ∷ ps) at =
      ap (λ (z : Binder). z ∷ map (binder_at ctx) (from_to (suc j) ps)) (get_or_from_slice_get ctx j p _ (ap (slice_get ctx) (sym (plus-zero j)) ∙ at 0 p refl))
      ∙ ap (λ (z : List Binder). p ∷ z) (ctx-is (suc j) ps λ i b b-at. ap (slice_get ctx) (shift j i) ∙ at (suc i) b b-at)

  heap-is : (j : ℕ) (ps : List Binder) → ((i : ℕ) → i < length ps → name_in met (j + i) ≡ j + i) → map (item_renamed (name_in met)) (map expr (variables_from j ps)) ≡ map expr (own_variables strict j ps)
  heap-is j [] kept = refl
  heap-is j (p ∷ ps) kept =
      ap (λ (z : ℕ). expr (var z) ∷ map (item_renamed (name_in met)) (map expr (variables_from (suc j) ps))) (ap (name_in met) (sym (plus-zero j)) ∙ kept 0 (omega arith) ∙ plus-zero j)
      ∙ ap (λ (z : List (Item Tree)). expr (var j) ∷ z) (heap-is (suc j) ps λ i lt. ap (name_in met) (shift j i) ∙ kept (suc i) (omega arith) ∙ sym (shift j i))

pub start-machine : (h : Heading) (dummies : List Binder) → machine (h.params ++ dummies) (work_start h.params) ≡ body_start strict h
start-machine h dummies =
    let c = ctx-is [] h.params dummies 0 h.params (λ i b b-at. ap (slice_get (h.params ++ dummies)) (zero-plus i) ∙ extends_append h.params dummies i b b-at) in
    let y = heap-is [] h.params dummies 0 h.params (λ i lt. names 0 h.params i lt ∙ sym (zero-plus i)) in
    ap (λ (z : List Binder). state z (map (item_renamed (name_in (from_to 0 h.params))) (map expr (variables_from 0 h.params)))) c ∙ ap (state h.params) y
  where
    state : List Binder → List (Item Tree) → State Tree
    state a b = record { ctx = a; heap = b; stack = []; hyps = [] }
