-- A body that is the same as an instance under distinct variables for dummies is the same as the pattern.
use Rattle.std.proofs.Common.{◌≡◌, ◌<◌, ◌+◌, ◌-◌, ℕ, zero, suc, Bool, true, false, ltb, List, [], ◌∷◌, ◌++◌, length, map, Option, Some, None, slice_get, refl, ap, sym, ◌∙◌, subst, arith, inl, inr, get_or}
use Rattle.std.specs.Option.{option_map}
use Rattle.std.proofs.lemmas.Bool.{ltb-true, ltb-false}
use Rattle.std.proofs.lemmas.Option.{slice_get-map, slice_get_within, get_or_from_slice_get}
use Rattle.mz_base.proofs.Offered.{slice_get-some as there, slice_get-map_back}
use Rattle.mz_logic_theory.specs.Tree.{Tree, Trees, var, app, none, more, operand, instance, instances, followed_by, variables}
use Rattle.mz_logic_theory.specs.Variables.{Occurs, OccursIn, InSomeV}
use Rattle.mz_logic_theory.specs.Conversions.{IsBoundOf, AreFresh}
use Rattle.mz_logic_theory.specs.declared.binder.Binder.{Binder}
use Rattle.mz_logic_theory.proofs.Offered.{split_at}
use Rattle.mz_machine_theory.specs.Spells.{variables_from}
use Rattle.mz_machine_theory.proofs.Offered.{some_is, distinct, in-some, operand-trees_of, length-params}
use Rattle.mz_emit_theory.specs.AlphaEquivalence.{own}
use Rattle.mz_emit_theory.proofs.Naming.{fresh_long}
use Rattle.mz_emit_theory.proofs.Unfolds.{operand-front, operand-behind, operand-variables, get-own}
use Rattle.mz_spec_proved_theory.specs.AlphaTrees.{SameOver, AllSameOver, Pairs, IsPaired, SameBody}

-- ---- parameters

pub own-of : (ps : List Binder) (i : ℕ) → i < length ps → slice_get (variables_from 0 ps) i ≡ Some (var i)
own-of ps i lt = get-own 0 ps i lt ∙ ap (λ (z : ℕ). Some (var z)) (omega arith)

-- ---- fresh variables

pub fresh-back : (ctx : List Binder) (es : Trees) (ys : List ℕ) (bs : List Binder) → AreFresh ctx es ys bs → (k y : ℕ) → slice_get ys k ≡ Some y
    → (b : Binder) × (slice_get bs k ≡ Some b) × IsBoundOf ctx y b.sort × (InSomeV ctx y es → ⊥)
fresh-back ctx es [] bs h k y at = absurd cc
fresh-back ctx es (z ∷ ys) [] h k y at = absurd h
fresh-back ctx es (z ∷ ys) (b ∷ bs) (bound, out, _, h) zero y at =
    let is : z ≡ y = cc in
    (b, refl, subst (λ (v : ℕ). IsBoundOf ctx v b.sort) is bound, subst (λ (v : ℕ). InSomeV ctx v es → ⊥) is out)
fresh-back ctx es (z ∷ ys) (b ∷ bs) (_, _, _, h) (suc k) y at = fresh-back ctx es ys bs h k y at

-- one of the list, or the default
get-at : (ps : List (Option ℕ)) (i p : ℕ) → get_or ps i None ≡ Some p → slice_get ps i ≡ Some (Some p)
get-at [] i p at = absurd cc
get-at (o ∷ ps) zero p at = ap (λ (z : Option ℕ). Some z) at
get-at (o ∷ ps) (suc i) p at = get-at ps i p at

-- ---- the pairs under a renaming: es are the dummies of the instance, fs those of the pattern

module _ (rows : List ℕ) (params ds es fs : List Binder) (ys : List ℕ) (fresh : AreFresh (params ++ es) (own params) ys fs) (pairs : List (Option ℕ)) (good : Pairs ds es pairs) where
  abbrev n : ℕ
  n = length params

  abbrev ctx : List Binder
  ctx = params ++ es

  abbrev F : Trees
  F = followed_by (own params) (variables ys)

  abbrev pair-of : ℕ → Option ℕ
  pair-of y = get_or pairs (y - length params) None

  abbrev pairs' : List (Option ℕ)
  pairs' = map pair-of ys

  -- each of the variables is one of the dummies
  record IsDummyAt (k y : ℕ) : Type 0 where
    binder : Binder
    at : slice_get fs k ≡ Some binder
    place : ℕ
    is : y ≡ length params + place
    dummy : Binder
    dummy-at : slice_get es place ≡ Some dummy
    same-sort : dummy.sort ≡ binder.sort

  dummy-of : (k y : ℕ) → slice_get ys k ≡ Some y → IsDummyAt k y
  dummy-of k y at =
      let (b, b-at, (c, c-at, bound, sort-is), out) = fresh-back ctx (own params) ys fs fresh k y at in
      elim (split_at params es y c c-at) [
        | inl here ↦ absurd (out (in-some ctx y (variables_from 0 params) y (var y) (own-of params y (slice_get_within params y c here)) (c, c-at, inl (bound, refl))))
        | inr (m, is, dummy) ↦ record { binder = b; at = b-at; place = m; is = is; dummy = c; dummy-at = dummy; same-sort = sort-is }
      ]

  pair-at : (k y : ℕ) → slice_get ys k ≡ Some y → (m p : ℕ) → y ≡ length params + m → pair-of y ≡ Some p → slice_get pairs m ≡ Some (Some p)
  pair-at k y at m p is h = get-at pairs m p (ap (λ (z : ℕ). get_or pairs z None) (omega (arith, is)) ∙ h)

  pairs-good : Pairs ds fs pairs'
  pairs-good = record { keeps_sorts = keeps; one_to_one = one }
    where
      keeps : (k p : ℕ) → slice_get (map pair-of ys) k ≡ Some (Some p) → (d : Binder) × (e : Binder) × (slice_get ds p ≡ Some d) × (slice_get fs k ≡ Some e) × (d.sort ≡ e.sort)
      keeps k p at =
          let (y, y-at, is) = slice_get-map_back pair-of ys k (Some p) at in
          let q = dummy-of k y y-at in
          let (d, e, d-at, e-at, sorts) = good.keeps_sorts q.place p (pair-at k y y-at q.place p q.is is) in
          (d, q.binder, d-at, q.at, sorts ∙ ap (λ (z : Binder). z.sort) (some_is e-at q.dummy-at) ∙ q.same-sort)

      one : (k l p : ℕ) → slice_get (map pair-of ys) k ≡ Some (Some p) → slice_get (map pair-of ys) l ≡ Some (Some p) → k ≡ l
      one k l p at at' =
          let (y, y-at, is) = slice_get-map_back pair-of ys k (Some p) at in
          let (z, z-at, is') = slice_get-map_back pair-of ys l (Some p) at' in
          let q = dummy-of k y y-at in
          let r = dummy-of l z z-at in
          let places : q.place ≡ r.place = good.one_to_one q.place r.place p (pair-at k y y-at q.place p q.is is) (pair-at l z z-at r.place p r.is is') in
          let same : y ≡ z = q.is ∙ ap (λ (v : ℕ). length params + v) places ∙ sym r.is in
          distinct ctx (own params) ys fs fresh k l z (y-at ∙ ap (λ (v : ℕ). Some v) same) z-at

  -- ---- variables

  back-low : (x z : ℕ) → z < length params → IsPaired (length params) pairs x z → IsPaired (length params) pairs' x z
  back-low x z lt (inl h) = inl h
  back-low x z lt (inr (p, k, x-is, z-is, at)) = absurd (omega (arith, lt, z-is))

  back-high : (x k y : ℕ) → slice_get ys k ≡ Some y → IsPaired (length params) pairs x y → IsPaired (length params) pairs' x (length params + k)
  back-high x k y at (inl (same, lt)) = let q = dummy-of k y at in absurd (let is = q.is in omega (arith, lt, is))
  back-high x k y at (inr (p, m, x-is, y-is, there)) =
      let less : y - length params ≡ m = omega (arith, y-is) in
      let value : pair-of y ≡ Some p = ap (λ (z : ℕ). get_or pairs z None) less ∙ get_or_from_slice_get pairs m (Some p) None there in
      inr (p, k, x-is, refl, slice_get-map pair-of ys k ∙ ap (option_map pair-of) at ∙ ap (λ (z : Option ℕ). Some z) value)

  var-back : (e : Tree) (z : ℕ) → z < length params + length fs → SameOver (IsPaired (length params) pairs) rows e (operand F z) → SameOver (IsPaired (length params) pairs') rows e (var z)
  var-back e z lt same = go (ltb z (length params)) refl
    where
      as-var : (d : Tree) (w : ℕ) → operand F z ≡ var w → SameOver (IsPaired (length params) pairs) rows d (operand F z) → SameOver (IsPaired (length params) pairs) rows d (var w)
      as-var d w is h = subst (λ (t : Tree). SameOver (IsPaired (length params) pairs) rows d t) is h

      low : z < length params → (d : Tree) → SameOver (IsPaired (length params) pairs) rows d (var z) → SameOver (IsPaired (length params) pairs') rows d (var z)
      low less (var x) h = back-low x z less h
      low less (app t es') h = absurd h

      high : (k y : ℕ) → slice_get ys k ≡ Some y → z ≡ length params + k → (d : Tree) → SameOver (IsPaired (length params) pairs) rows d (var y) → SameOver (IsPaired (length params) pairs') rows d (var z)
      high k y at is (var x) h = subst (IsPaired (length params) pairs' x) (sym is) (back-high x k y at h)
      high k y at is (app t es') h = absurd h

      go : (b : Bool) → ltb z (length params) ≡ b → SameOver (IsPaired (length params) pairs') rows e (var z)
      go true is =
          let less = ltb-true z (length params) is in
          let many = length-params 0 params in
          let is-own : operand F z ≡ var z = operand-front (variables_from 0 params) (variables ys) z (omega (arith, less, many)) ∙ operand-trees_of (variables_from 0 params) z (var z) (own-of params z less) in
          low less e (as-var e z is-own same)
      go false is =
          let over = ltb-false z (length params) is in
          let long = fresh_long ctx (own params) ys fs fresh in
          let k : ℕ = z - length params in
          let z-is : z ≡ length params + k = omega (arith, over) in
          let (y, at) = there ys k (omega (arith, lt, over, long)) in
          let put : operand F z ≡ var y = ap (operand F) z-is ∙ operand-behind (variables_from 0 params) (variables ys) (length params) k (length-params 0 params) ∙ operand-variables ys k y at in
          high k y at z-is e (as-var e y put same)

  mutual
    pub body-back : (e f : Tree) → ((y : ℕ) → Occurs y f → y < length params + length fs) → SameOver (IsPaired (length params) pairs) rows e (instance F f) → SameOver (IsPaired (length params) pairs') rows e f
    body-back e (var z) inside same = var-back e z (inside z refl) same
    body-back (var x) (app t gs) inside same = absurd same
    body-back (app k es') (app t gs) inside (row, same) = (row, bodies-back es' gs inside same)

    pub bodies-back : (es' gs : Trees) → ((y : ℕ) → OccursIn y gs → y < length params + length fs) → AllSameOver (IsPaired (length params) pairs) rows es' (instances F gs) → AllSameOver (IsPaired (length params) pairs') rows es' gs
    bodies-back none none inside same = tt
    bodies-back (more e es') (more g gs) inside (first, others) = (body-back e g (λ y o. inside y (inl o)) first, bodies-back es' gs (λ y o. inside y (inr o)) others)
    bodies-back _ _ inside same = absurd same

pub same-body-back : (rows : List ℕ) (params ds es fs : List Binder) (e body f : Tree) (ys : List ℕ) → AreFresh (params ++ es) (own params) ys fs → body ≡ instance (followed_by (own params) (variables ys)) f
    → ((y : ℕ) → Occurs y f → y < length params + length fs) → SameBody rows (length params) ds es e body → SameBody rows (length params) ds fs e f
same-body-back rows params ds es fs e body f ys fresh is inside (pairs, good, same) = (
  pairs' rows params ds es fs ys fresh pairs good,
  pairs-good rows params ds es fs ys fresh pairs good,
  body-back rows params ds es fs ys fresh pairs good e f inside (subst (SameOver (IsPaired (length params) pairs) rows e) is same),
)
