-- The parameters: their places, their names, and what is marked at the start.
use Rattle.std.proofs.Common.{◌≡◌, ℕ, suc, ◌<◌, List, [], ◌∷◌, ◌++◌, length, map, Some, refl, sym, ap, subst, ◌∙◌, inl, inr, arith, append-nil, not-suc-le-zero}
use Rattle.std.specs.Prelude.{slice_get, Contains}
use Rattle.std.specs.Option.{option_map}
use Rattle.std.proofs.lemmas.Option.{slice_get-map, slice_get_within}
use Rattle.std.proofs.lemmas.List.{map-append}
use Rattle.mz_base.proofs.Offered.{slice_get-map_back, contains_at, place-of}
use Rattle.mz_logic_theory.specs.Tree.{Tree, Trees, var, app, none, more, operand, instance, instances, followed_by, variables}
use Rattle.mz_logic_theory.specs.Signature.{Signature}
use Rattle.mz_logic_theory.specs.Sorts.{HasSort, Fits}
use Rattle.mz_logic_theory.specs.Variables.{Occurs, OccursIn}
use Rattle.mz_logic_theory.specs.declared.binder.Binder.{Binder}
use Rattle.mz_machine_theory.specs.Spells.{trees_of, variables_from}
use Rattle.mz_machine_theory.proofs.Offered.{followed-by-variables, operand-trees_of}
use Rattle.mz_emit_theory.specs.SymbolicState.{renamed, all_renamed, place_of, name_in, from_to}
use Rattle.mz_emit_theory.specs.BodyLaws.{OwnNames, AreOnce}
use Rattle.mz_emit_theory.specs.AlphaEquivalence.{own}
use Rattle.mz_emit_theory.proofs.Naming.{place-at}
use Rattle.mz_emit_theory.proofs.Starting.{within, start-right}
use Rattle.mz_emit_theory.specs.StreamWriting.{writing_start}
use Rattle.mz_emit_theory.proofs.Marking.{place-front}
use Rattle.mz_emit_theory.proofs.StreamGrowing.{Right}

pub own-long : (j : ℕ) (ps : List Binder) → length (from_to j ps) ≡ length ps
own-long j [] = refl
own-long j (p ∷ ps) = ap suc (own-long (suc j) ps)

pub own-variables : (j : ℕ) (ps : List Binder) → variables_from j ps ≡ map var (from_to j ps)
own-variables j [] = refl
own-variables j (p ∷ ps) = ap (λ (z : List Tree). var j ∷ z) (own-variables (suc j) ps)

pub own-names : (params : List Binder) → OwnNames (length params) (from_to 0 params)
own-names params = (start-right [] params []).own

pub own-once : (params : List Binder) → AreOnce (from_to 0 params)
own-once params = (start-right [] params []).once

pub writing-right : (params ctx : List Binder) → Right (from_to 0 params) ctx (writing_start params)
writing-right params ctx = record {
  marked = λ y h. (let (i, at) = place-of (from_to 0 params) y (subst (λ (z : List ℕ). Contains z y) (append-nil (from_to 0 params)) h) in
      (i, ap (λ (z : List Tree). slice_get z i) (own-variables 0 params) ∙ slice_get-map var (from_to 0 params) i ∙ ap (option_map var) at));
  once = subst AreOnce (sym (append-nil (from_to 0 params))) (own-once params);
  inside = λ y (k, lt, is). absurd (not-suc-le-zero lt);
  known = λ i t at y o. (let (x, x-at, is) = slice_get-map_back var (from_to 0 params) i t (ap (λ (z : List Tree). slice_get z i) (sym (own-variables 0 params)) ∙ at) in
      subst (λ (z : List ℕ). Contains z y) (sym (append-nil (from_to 0 params))) (subst (Contains (from_to 0 params)) (sym (subst (Occurs y) (sym is) o)) (contains_at (from_to 0 params) i x x-at)));
}

-- ---- variables of what has a sort

mutual
  pub sorted-there : (sigs : List Signature) (ctx : List Binder) (e : Tree) (s : ℕ) → HasSort sigs ctx e s → (y : ℕ) → Occurs y e → (b : Binder) × (slice_get ctx y ≡ Some b)
  sorted-there sigs ctx (var x) s (b, at, _) y o = (b, ap (slice_get ctx) o ∙ at)
  sorted-there sigs ctx (app t es) s (d, _, _, fits) y o = fits-there sigs ctx es d.params fits y o

  pub fits-there : (sigs : List Signature) (ctx : List Binder) (es : Trees) (ps : List Binder) → Fits sigs ctx es ps → (y : ℕ) → OccursIn y es → (b : Binder) × (slice_get ctx y ≡ Some b)
  fits-there sigs ctx none ps fits y o = absurd o
  fits-there sigs ctx (more e es) [] fits y o = absurd fits
  fits-there sigs ctx (more e es) (p ∷ ps) (has, _, fits) y (inl o) = sorted-there sigs ctx e p.sort has y o
  fits-there sigs ctx (more e es) (p ∷ ps) (has, _, fits) y (inr o) = fits-there sigs ctx es ps fits y o

pub sorted-own : (sigs : List Signature) (params : List Binder) (e : Tree) (s : ℕ) → HasSort sigs params e s → (y : ℕ) → Occurs y e → Contains (from_to 0 params) y
sorted-own sigs params e s has y o = let (b, at) = sorted-there sigs params e s has y o in (own-names params y (slice_get_within params y b at)).0

-- ---- names of parameters

pub own-name : (params : List Binder) (last : List ℕ) (y : ℕ) → Contains (from_to 0 params) y → name_in (from_to 0 params ++ last) y ≡ y
own-name params last y h =
    let (i, at) = place-of (from_to 0 params) y h in
    place-front (from_to 0 params) last y h ∙ (own-names params y (below y h)).1
  where
    below : (x : ℕ) → Contains (from_to 0 params) x → x < length params
    below x has = let (low, high) = within 0 params x has in omega (arith, high)

mutual
  pub renamed-self : (f : ℕ → ℕ) (e : Tree) → ((y : ℕ) → Occurs y e → f y ≡ y) → renamed f e ≡ e
  renamed-self f (var x) h = ap var (h x refl)
  renamed-self f (app t es) h = ap (app t) (all-renamed-self f es h)

  pub all-renamed-self : (f : ℕ → ℕ) (es : Trees) → ((y : ℕ) → OccursIn y es → f y ≡ y) → all_renamed f es ≡ es
  all-renamed-self f none h = refl
  all-renamed-self f (more e es) h = ap (λ (z : Tree). more z (all_renamed f es)) (renamed-self f e λ y o. h y (inl o)) ∙ ap (more e) (all-renamed-self f es λ y o. h y (inr o))

pub own-kept : (params : List Binder) (last : List ℕ) → map (renamed (name_in (from_to 0 params ++ last))) (variables_from 0 params) ≡ variables_from 0 params
own-kept params last = ap (map (renamed f)) (own-variables 0 params) ∙ each (from_to 0 params) (λ y h. own-name params last y h) ∙ sym (own-variables 0 params)
  where
    f : ℕ → ℕ
    f = name_in (from_to 0 params ++ last)

    each : (ys : List ℕ) → ((y : ℕ) → Contains ys y → name_in (from_to 0 params ++ last) y ≡ y) → map (renamed (name_in (from_to 0 params ++ last))) (map var ys) ≡ map var ys
    each [] h = refl
    each (y ∷ ys) h = ap (λ (z : ℕ). var z ∷ map (renamed (name_in (from_to 0 params ++ last))) (map var ys)) (h y (0, omega arith, refl))
        ∙ ap (λ (z : List Tree). var y ∷ z) (each ys λ x (k, lt, is). h x (suc k, omega arith, is))

-- ---- back from names

pub operands-back : (params : List Binder) (last : List ℕ) (y : ℕ) → Contains (from_to 0 params ++ last) y
    → operand (followed_by (own params) (variables last)) (name_in (from_to 0 params ++ last) y) ≡ var y
operands-back params last y h =
    let all : List ℕ = from_to 0 params ++ last in
    let shape : trees_of (map var all) ≡ followed_by (own params) (variables last) =
    ap trees_of (map-append var (from_to 0 params) last ∙ ap (λ (z : List Tree). z ++ map var last) (sym (own-variables 0 params))) ∙ followed-by-variables (variables_from 0 params) last in
    ap (λ (z : Trees). operand z (place_of y all)) (sym shape)
    ∙ operand-trees_of (map var all) (place_of y all) (var y) (slice_get-map var all (place_of y all) ∙ ap (option_map var) (place-at all y h))

mutual
  pub instance-back : (F : Trees) (f : ℕ → ℕ) (e : Tree) → ((y : ℕ) → Occurs y e → operand F (f y) ≡ var y) → instance F (renamed f e) ≡ e
  instance-back F f (var x) h = h x refl
  instance-back F f (app t es) h = ap (app t) (instances-back F f es h)

  pub instances-back : (F : Trees) (f : ℕ → ℕ) (es : Trees) → ((y : ℕ) → OccursIn y es → operand F (f y) ≡ var y) → instances F (all_renamed f es) ≡ es
  instances-back F f none h = refl
  instances-back F f (more e es) h = ap (λ (z : Tree). more z (instances F (all_renamed f es))) (instance-back F f e λ y o. h y (inl o)) ∙ ap (more e) (instances-back F f es λ y o. h y (inr o))

-- what occurs in a named expression is the name of what occurs in it
mutual
  pub occurs-back : (f : ℕ → ℕ) (e : Tree) (z : ℕ) → Occurs z (renamed f e) → (x : ℕ) × Occurs x e × (f x ≡ z)
  occurs-back f (var x) z o = (x, refl, sym o)
  occurs-back f (app t es) z o = occurs-in-back f es z o

  pub occurs-in-back : (f : ℕ → ℕ) (es : Trees) (z : ℕ) → OccursIn z (all_renamed f es) → (x : ℕ) × OccursIn x es × (f x ≡ z)
  occurs-in-back f none z o = absurd o
  occurs-in-back f (more e es) z (inl o) = let (x, h, is) = occurs-back f e z o in (x, inl h, is)
  occurs-in-back f (more e es) z (inr o) = let (x, h, is) = occurs-in-back f es z o in (x, inr h, is)

mutual
  pub occurs-named : (f : ℕ → ℕ) (e : Tree) (x : ℕ) → Occurs x e → Occurs (f x) (renamed f e)
  occurs-named f (var y) x o = ap f o
  occurs-named f (app t es) x o = occurs-in-named f es x o

  pub occurs-in-named : (f : ℕ → ℕ) (es : Trees) (x : ℕ) → OccursIn x es → OccursIn (f x) (all_renamed f es)
  occurs-in-named f none x o = absurd o
  occurs-in-named f (more e es) x (inl o) = inl (occurs-named f e x o)
  occurs-in-named f (more e es) x (inr o) = inr (occurs-in-named f es x o)
