-- Naming by places keeps sorts, boundness and variables.
use Rattle.std.proofs.Common.{◌≡◌, ℕ, zero, suc, Bool, true, false, eqb, cond, List, [], ◌∷◌, ◌++◌, length, map, Some, refl, sym, ap, subst, ◌∙◌, ◌⊎◌, inl, inr, arith, eq-eqb, not-suc-le-zero}
use Rattle.std.specs.Prelude.{slice_get, Contains}
use Rattle.std.specs.Option.{option_map}
use Rattle.std.proofs.lemmas.Bool.{eqb-true}
use Rattle.std.proofs.lemmas.List.Elements.{Contains-append_left, Contains-append_cases}
use Rattle.std.proofs.lemmas.Option.{slice_get-map, get_or_from_slice_get}
use Rattle.mz_logic_theory.specs.Tree.{Tree, Trees, var, app, none, more, listed, operand, instance, instances, followed_by, variables}
use Rattle.mz_logic_theory.specs.Signature.{Signature}
use Rattle.mz_logic_theory.specs.Sorts.{IsBoundVar, HasSort, Fits}
use Rattle.mz_logic_theory.specs.Variables.{Occurs, OccursIn, InV, InSomeV, InFV, InSomeFV, IsOperandAt, AreDisjoint}
use Rattle.mz_logic_theory.specs.Conversions.{AreFresh}
use Rattle.mz_logic_theory.specs.Legality.{binder_at}
use Rattle.mz_logic_theory.specs.declared.binder.Binder.{Binder}
use Rattle.mz_logic_theory.proofs.Offered.{operand_has_sort, same-variable}
use Rattle.mz_machine_theory.specs.Spells.{trees_of}
use Rattle.mz_machine_theory.proofs.Offered.{some_is, not-both, no-app}
use Rattle.mz_emit_theory.specs.SymbolicState.{renamed, all_renamed, place_of, name_in, met_binders}
use Rattle.mz_emit_theory.specs.BodyLaws.{OwnNames, DependOnFirst, AreOnce}

-- ---- places

pub place-at : (met : List ℕ) (x : ℕ) → Contains met x → slice_get met (place_of x met) ≡ Some x
place-at [] x (k, lt, is) = absurd (not-suc-le-zero lt)
place-at (y ∷ met) x has = go (eqb x y) refl has (place-at met x)
  where
    go : (b : Bool) → eqb x y ≡ b → Contains (y ∷ met) x → (Contains met x → slice_get met (place_of x met) ≡ Some x) → slice_get (y ∷ met) (cond b 0 (suc (place_of x met))) ≡ Some x
    go true is h later = ap (λ (z : ℕ). Some z) (sym (eqb-true _ _ is))
    go false is (zero, lt, same) later = absurd (not-both (eqb x y) (eq-eqb x y (sym same)) is)
    go false is (suc k, lt, same) later = later (k, omega arith, same)

pub place-more : (met : List ℕ) (x y : ℕ) → Contains met x → place_of x (met ++ y ∷ []) ≡ place_of x met
place-more [] x y (k, lt, is) = absurd (not-suc-le-zero lt)
place-more (z ∷ met) x y has = go (eqb x z) refl has (place-more met x y)
  where
    go : (b : Bool) → eqb x z ≡ b → Contains (z ∷ met) x → (Contains met x → place_of x (met ++ y ∷ []) ≡ place_of x met) → cond b 0 (suc (place_of x (met ++ y ∷ []))) ≡ cond b 0 (suc (place_of x met))
    go true is h later = refl
    go false is (zero, lt, same) later = absurd (not-both (eqb x z) (eq-eqb x z (sym same)) is)
    go false is (suc k, lt, same) later = ap suc (later (k, omega arith, same))

pub place-new : (met : List ℕ) (x : ℕ) → (Contains met x → ⊥) → place_of x (met ++ x ∷ []) ≡ length met
place-new [] x out = rw (eq-eqb x x refl) refl
place-new (y ∷ met) x out = go (eqb x y) refl (place-new met x λ (k, lt, is). out (suc k, omega arith, is))
  where
    go : (b : Bool) → eqb x y ≡ b → place_of x (met ++ x ∷ []) ≡ length met → cond b 0 (suc (place_of x (met ++ x ∷ []))) ≡ suc (length met)
    go true is e = absurd (out (0, omega arith, sym (eqb-true _ _ is)))
    go false is e = ap suc e

pub one-name : (met : List ℕ) (x y : ℕ) → Contains met x → Contains met y → place_of x met ≡ place_of y met → x ≡ y
one-name met x y hx hy same = some_is (place-at met x hx) (ap (slice_get met) same ∙ place-at met y hy)

pub own-more : (n : ℕ) (met : List ℕ) (x : ℕ) → OwnNames n met → OwnNames n (met ++ x ∷ [])
own-more n met x own y lt = let (in-met, name) = own y lt in (Contains-append_left met (x ∷ []) y in-met, place-more met y x in-met ∙ name)

pub once-more : (met : List ℕ) (x : ℕ) → AreOnce met → (Contains met x → ⊥) → AreOnce (met ++ x ∷ [])
once-more [] x once out = ((λ (k, lt, is). not-suc-le-zero lt), tt)
once-more (y ∷ met) x (first, once) out = (
  (λ has. elim (Contains-append_cases met (x ∷ []) y has) [
    | inl before ↦ first before
    | inr last ↦ out (0, omega arith, sym (one x y last))
  ]),
  once-more met x once λ (k, lt, is). out (suc k, omega arith, is),
)
  where
    one : (a b : ℕ) → Contains (a ∷ []) b → a ≡ b
    one a b (zero, lt, is) = is
    one a b (suc k, lt, is) = absurd (omega arith)

-- ---- renaming and instances

pub renamed-operand : (g : ℕ → ℕ) (f : Trees) (i : ℕ) → renamed g (operand f i) ≡ operand (all_renamed g f) i
renamed-operand g (more e es) (suc i) = renamed-operand g es i
renamed-operand g _ _ = refl

mutual
  pub renamed-instance : (g : ℕ → ℕ) (f : Trees) (e : Tree) → renamed g (instance f e) ≡ instance (all_renamed g f) e
  renamed-instance g f (var x) = renamed-operand g f x
  renamed-instance g f (app t es) = ap (app t) (renamed-instances g f es)

  pub renamed-instances : (g : ℕ → ℕ) (f : Trees) (es : Trees) → all_renamed g (instances f es) ≡ instances (all_renamed g f) es
  renamed-instances g f none = refl
  renamed-instances g f (more e es) = ap (λ (z : Tree). more z (all_renamed g (instances f es))) (renamed-instance g f e) ∙ ap (more (instance (all_renamed g f) e)) (renamed-instances g f es)

pub renamed-trees : (g : ℕ → ℕ) (es : List Tree) → all_renamed g (trees_of es) ≡ trees_of (map (renamed g) es)
renamed-trees g [] = refl
renamed-trees g (e ∷ es) = ap (more (renamed g e)) (renamed-trees g es)

pub renamed-listed : (g : ℕ → ℕ) (es : Trees) → map (renamed g) (listed es) ≡ listed (all_renamed g es)
renamed-listed g none = refl
renamed-listed g (more e es) = ap (λ (z : List Tree). renamed g e ∷ z) (renamed-listed g es)

pub renamed-followed : (g : ℕ → ℕ) (es fs : Trees) → all_renamed g (followed_by es fs) ≡ followed_by (all_renamed g es) (all_renamed g fs)
renamed-followed g none fs = refl
renamed-followed g (more e es) fs = ap (more (renamed g e)) (renamed-followed g es fs)

pub renamed-variables : (g : ℕ → ℕ) (ys : List ℕ) → all_renamed g (variables ys) ≡ variables (map g ys)
renamed-variables g [] = refl
renamed-variables g (y ∷ ys) = ap (more (var (g y))) (renamed-variables g ys)

-- one numbering or another of the variables that occur
mutual
  pub renamed-alike : (g h : ℕ → ℕ) (e : Tree) → ((y : ℕ) → Occurs y e → g y ≡ h y) → renamed g e ≡ renamed h e
  renamed-alike g h (var x) same = ap var (same x refl)
  renamed-alike g h (app t es) same = ap (app t) (all-renamed-alike g h es same)

  pub all-renamed-alike : (g h : ℕ → ℕ) (es : Trees) → ((y : ℕ) → OccursIn y es → g y ≡ h y) → all_renamed g es ≡ all_renamed h es
  all-renamed-alike g h none same = refl
  all-renamed-alike g h (more e es) same =
      ap (λ (z : Tree). more z (all_renamed g es)) (renamed-alike g h e λ y o. same y (inl o)) ∙ ap (more (renamed h e)) (all-renamed-alike g h es λ y o. same y (inr o))

pub occurs-in : (y i : ℕ) (es : Trees) → Occurs y (operand es i) → OccursIn y es
occurs-in y i none o = absurd o
occurs-in y zero (more e es) o = inl o
occurs-in y (suc i) (more e es) o = inr (occurs-in y i es o)

-- what is named as a variable is one
pub var-back : (g : ℕ → ℕ) (z : ℕ) (e : Tree) → renamed g e ≡ var z → (x : ℕ) × (e ≡ var x) × (g x ≡ z)
var-back g z (var x) is = (x, refl, same-variable (g x) z is)
var-back g z (app t es) is = absurd (no-app t (all_renamed g es) z is)

-- ---- the logic under the names

-- a variable on which one of the context depends is met, and has its own name
abbrev pub DepsAreKept : List Binder → List ℕ → Type 0
DepsAreKept ctx met = (y : ℕ) (b : Binder) (z : ℕ) → slice_get ctx y ≡ Some b → Contains b.deps z → Contains met z × (name_in met z ≡ z)

pub deps-kept : (n : ℕ) (ctx : List Binder) (met : List ℕ) → DependOnFirst n ctx → OwnNames n met → DepsAreKept ctx met
deps-kept n ctx met first own y b z at has = own z (first y b z at has)

module _ (sigs : List Signature) (ctx : List Binder) (met : List ℕ) (deps : DepsAreKept ctx met) where
  abbrev g : ℕ → ℕ
  g = name_in met

  abbrev ctx' : List Binder
  ctx' = met_binders ctx met

  abbrev Known : Tree → Type 0
  Known e = (y : ℕ) → Occurs y e → Contains met y

  abbrev AllKnown : Trees → Type 0
  AllKnown es = (y : ℕ) → OccursIn y es → Contains met y

  pub at-name : (x : ℕ) (b : Binder) → Contains met x → slice_get ctx x ≡ Some b → slice_get ctx' (g x) ≡ Some b
  at-name x b has at = slice_get-map (binder_at ctx) met (g x) ∙ ap (option_map (binder_at ctx)) (place-at met x has) ∙ ap (λ (z : Binder). Some z) (get_or_from_slice_get ctx x b _ at)

  pub bound-forward : (e : Tree) → Known e → IsBoundVar ctx e → IsBoundVar ctx' (renamed g e)
  bound-forward e known (x, b, is, at, bound) = (g x, b, ap (renamed g) is, at-name x b (known x (subst (Occurs x) (sym is) refl)) at, bound)

  mutual
    pub sort-forward : (e : Tree) (s : ℕ) → Known e → HasSort sigs ctx e s → HasSort sigs ctx' (renamed g e) s
    sort-forward (var x) s known (b, at, is) = (b, at-name x b (known x refl) at, is)
    sort-forward (app t es) s known (d, at, is, fits) = (d, at, is, fits-forward es d.params known fits)

    pub fits-forward : (es : Trees) (ps : List Binder) → AllKnown es → Fits sigs ctx es ps → Fits sigs ctx' (all_renamed g es) ps
    fits-forward none [] known h = tt
    fits-forward (more e es) (p ∷ ps) known (has, bound, fits) =
        (sort-forward e p.sort (λ y o. known y (inl o)) has, λ is. bound-forward e (λ y o. known y (inl o)) (bound is), fits-forward es ps (λ y o. known y (inr o)) fits)
    fits-forward _ _ known h = absurd h

  -- a variable of a named expression is the name of one of the expression
  abbrev Named : (ℕ → Type 0) → ℕ → Type 0
  Named P z = (x : ℕ) × Contains met x × (g x ≡ z) × P x

  mutual
    pub v-back : (z : ℕ) (e : Tree) (s : ℕ) → Known e → HasSort sigs ctx e s → InV ctx' z (renamed g e) → Named (λ x. InV ctx x e) z
    v-back z (var y) s known (b, at, _) (c, c-at, h) =
        let c-is : c ≡ b = some_is c-at (at-name y b (known y refl) at) in
        elim h [
          | inl (bound, same) ↦ (y, known y refl, sym same, (b, at, inl (ap (λ (a : Binder). a.bound) (sym c-is) ∙ bound, refl)))
          | inr (regular, has) ↦ (let has' : Contains b.deps z = subst (λ (a : Binder). Contains a.deps z) c-is has in
              let (in-met, own) = deps y b z at has' in
              (z, in-met, own, (b, at, inr (ap (λ (a : Binder). a.bound) (sym c-is) ∙ regular, has'))))
        ]
    v-back z (app t es) s known (d, at, is, fits) h = some-v-back z es d.params known fits h

    pub some-v-back : (z : ℕ) (es : Trees) (ps : List Binder) → AllKnown es → Fits sigs ctx es ps → InSomeV ctx' z (all_renamed g es) → Named (λ x. InSomeV ctx x es) z
    some-v-back z none ps known fits h = absurd h
    some-v-back z (more e es) [] known fits h = absurd fits
    some-v-back z (more e es) (p ∷ ps) known (has, _, fits) (inl h) = let (x, in-met, is, v) = v-back z e p.sort (λ y o. known y (inl o)) has h in (x, in-met, is, inl v)
    some-v-back z (more e es) (p ∷ ps) known (has, _, fits) (inr h) = let (x, in-met, is, v) = some-v-back z es ps (λ y o. known y (inr o)) fits h in (x, in-met, is, inr v)

  -- the same of free variables
  named-forward : (params : List Binder) (all : Trees) (places : List ℕ) (x : ℕ) → IsOperandAt params all places x → IsOperandAt params (all_renamed g all) places (g x)
  named-forward params all places x (j, has, bound, is) = (j, has, bound, sym (renamed-operand g all j) ∙ ap (renamed g) is)

  mutual
    pub fv-back : (z : ℕ) (e : Tree) (s : ℕ) → Known e → HasSort sigs ctx e s → InFV sigs ctx' z (renamed g e) → Named (λ x. InFV sigs ctx x e) z
    fv-back z (var y) s known has h = v-back z (var y) s known has h
    fv-back z (app t es) s known (d, at, is, fits) (c, c-at, h) =
        let c-is : c ≡ d = some_is c-at at in
        go (subst (λ (a : Signature). InSomeFV sigs ctx' z a.params (all_renamed g es) a.params (all_renamed g es) ⊎ IsOperandAt a.params (all_renamed g es) a.result.deps z) c-is h)
        (some-fv-back z d.params es d.params es known fits)
      where
        go : InSomeFV sigs ctx' z d.params (all_renamed g es) d.params (all_renamed g es) ⊎ IsOperandAt d.params (all_renamed g es) d.result.deps z
            → (InSomeFV sigs ctx' z d.params (all_renamed g es) d.params (all_renamed g es) → Named (λ x. InSomeFV sigs ctx x d.params es d.params es) z) → Named (λ x. InFV sigs ctx x (app t es)) z
        go (inl some) later = let (x, in-met, name, v) = later some in (x, in-met, name, (d, at, inl v))
        go (inr (j, has, bound, named)) later =
            let (x, x-is, name) = var-back g z (operand es j) (renamed-operand g es j ∙ named) in
            (x, known x (occurs-in x j es (subst (Occurs x) (sym x-is) refl)), name, (d, at, inr (j, has, bound, x-is)))

    some-fv-back : (z : ℕ) (params : List Binder) (all : Trees) (ps : List Binder) (es : Trees) → AllKnown es → Fits sigs ctx es ps
        → InSomeFV sigs ctx' z params (all_renamed g all) ps (all_renamed g es) → Named (λ x. InSomeFV sigs ctx x params all ps es) z
    some-fv-back z params all ps none known fits h = absurd h
    some-fv-back z params all [] (more e es) known fits h = absurd h
    some-fv-back z params all (p ∷ ps) (more e es) known (has, _, fits) (inl (regular, free, out)) =
        let (x, in-met, name, v) = fv-back z e p.sort (λ y o. known y (inl o)) has free in
        (x, in-met, name, inl (regular, v, λ named. out (subst (IsOperandAt params (all_renamed g all) p.deps) name (named-forward params all p.deps x named))))
    some-fv-back z params all (p ∷ ps) (more e es) known (has, _, fits) (inr h) =
        let (x, in-met, name, v) = some-fv-back z params all ps es (λ y o. known y (inr o)) fits h in (x, in-met, name, inr v)

  -- ---- operands that are disjoint, and fresh variables

  pub apart-forward : (es : Trees) (ps : List Binder) → AllKnown es → Fits sigs ctx es ps → AreDisjoint ctx es ps → AreDisjoint ctx' (all_renamed g es) ps
  apart-forward es ps known fits apart i j z p q p-at q-at bound z-at within =
      let (x, x-is, name) = var-back g z (operand es j) (renamed-operand g es j ∙ z-at) in
      let x-met : Contains met x = known x (occurs-in x j es (subst (Occurs x) (sym x-is) refl)) in
      let (y, y-met, y-name, v) = v-back z (operand es i) p.sort (λ y o. known y (occurs-in y i es o)) (operand_has_sort sigs ctx es ps fits i p p-at)
      (subst (InV ctx' z) (sym (renamed-operand g es i)) within) in
      let same : y ≡ x = one-name met y x y-met x-met (y-name ∙ sym name) in
      apart i j x p q p-at q-at bound x-is (subst (λ (w : ℕ). InV ctx w (operand es i)) same v)

  contains-back : (ys : List ℕ) (y : ℕ) → ((k w : ℕ) → slice_get ys k ≡ Some w → Contains met w) → Contains met y → Contains (map g ys) (g y) → Contains ys y
  contains-back [] y all has (k, lt, is) = absurd (not-suc-le-zero lt)
  contains-back (w ∷ ys) y all has (zero, lt, is) = (0, omega arith, one-name met w y (all 0 w refl) has is)
  contains-back (w ∷ ys) y all has (suc k, lt, is) = let (i, i-lt, i-is) = contains-back ys y (λ j v. all (suc j) v) has (k, omega arith, is) in (suc i, omega arith, i-is)

  pub fresh-forward : (es : Trees) (ps : List Binder) → AllKnown es → Fits sigs ctx es ps → (ys : List ℕ) (bs : List Binder) → ((k w : ℕ) → slice_get ys k ≡ Some w → Contains met w)
      → AreFresh ctx es ys bs → AreFresh ctx' (all_renamed g es) (map g ys) bs
  fresh-forward es ps known fits [] [] all h = tt
  fresh-forward es ps known fits (y ∷ ys) (b ∷ bs) all ((c, at, bound, sort-is), out, once, h) =
      let y-met : Contains met y = all 0 y refl in (
        (c, at-name y c y-met at, bound, sort-is),
        (λ within.
            let (x, x-met, name, v) = some-v-back (g y) es ps known fits within in
            out (subst (λ (w : ℕ). InSomeV ctx w es) (one-name met x y x-met y-met name) v)),
        (λ has. once (contains-back ys y (λ j w. all (suc j) w) y-met has)),
        fresh-forward es ps known fits ys bs (λ j w. all (suc j) w) h,
      )
  fresh-forward es ps known fits _ _ all h = absurd h

-- fresh variables are as many as the dummies
pub fresh_long : (ctx : List Binder) (es : Trees) (ys : List ℕ) (bs : List Binder) → AreFresh ctx es ys bs → length ys ≡ length bs
fresh_long ctx es [] [] h = refl
fresh_long ctx es (y ∷ ys) (b ∷ bs) (_, _, _, h) = ap suc (fresh_long ctx es ys bs h)
fresh_long ctx es _ _ h = absurd h
