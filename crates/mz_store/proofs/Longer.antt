-- Variables of an expression in a longer context.
use Rattle.std.proofs.Common.{ℕ, ◌<◌, List, [], ◌∷◌, length, sym, subst, inl, inr}
use Rattle.std.proofs.lemmas.Option.{slice_get_within}
use Rattle.mz_logic_theory.specs.Tree.{Tree, Trees, var, app, none, more}
use Rattle.mz_logic_theory.specs.Signature.{Signature}
use Rattle.mz_logic_theory.specs.Sorts.{HasSort, Fits}
use Rattle.mz_logic_theory.specs.Variables.{InV, InSomeV, InFV, InSomeFV}
use Rattle.mz_logic_theory.specs.declared.binder.Binder.{Binder}
use Rattle.mz_logic_theory.proofs.Offered.{Extends, in_v_extends, in_v_back, range_of_sort, DepsInside, free_below}
use Rattle.mz_store.specs.Sharing.{DependsOn}
use Rattle.mz_store.specs.declared.item.DepsMode.{DepsMode}
use Rattle.mz_store.specs.declared.item.DepsMode.TheVariants as of

mutual
  fv-extends : (sigs : List Signature) (ctx ctx' : List Binder) → Extends ctx ctx' → (x : ℕ) (e : Tree) → InFV sigs ctx x e → InFV sigs ctx' x e
  fv-extends sigs ctx ctx' l x (var y) h = in_v_extends ctx ctx' l x (var y) h
  fv-extends sigs ctx ctx' l x (app t es) (d, at, inl h) = (d, at, inl (some-fv-extends sigs ctx ctx' l x d.params es d.params es h))
  fv-extends sigs ctx ctx' l x (app t es) (d, at, inr h) = (d, at, inr h)

  some-fv-extends : (sigs : List Signature) (ctx ctx' : List Binder) → Extends ctx ctx' → (x : ℕ) (params : List Binder) (all : Trees) (ps : List Binder) (es : Trees)
      → InSomeFV sigs ctx x params all ps es → InSomeFV sigs ctx' x params all ps es
  some-fv-extends sigs ctx ctx' l x params all ps none h = absurd h
  some-fv-extends sigs ctx ctx' l x params all [] (more e es) h = absurd h
  some-fv-extends sigs ctx ctx' l x params all (p ∷ ps) (more e es) (inl (regular, h, out)) = inl (regular, fv-extends sigs ctx ctx' l x e h, out)
  some-fv-extends sigs ctx ctx' l x params all (p ∷ ps) (more e es) (inr h) = inr (some-fv-extends sigs ctx ctx' l x params all ps es h)

mutual
  fv-back : (sigs : List Signature) (ctx ctx' : List Binder) → Extends ctx ctx' → (x : ℕ) (e : Tree) (s : ℕ) → HasSort sigs ctx e s → InFV sigs ctx' x e → InFV sigs ctx x e
  fv-back sigs ctx ctx' l x (var y) s sorted h = in_v_back sigs ctx ctx' l x (var y) s sorted h
  fv-back sigs ctx ctx' l x (app t es) s (c, _, _, fits) (d, at, inl h) = (d, at, inl (some-fv-back sigs ctx ctx' l x d.params es d.params es c.params fits h))
  fv-back sigs ctx ctx' l x (app t es) s sorted (d, at, inr h) = (d, at, inr h)

  some-fv-back : (sigs : List Signature) (ctx ctx' : List Binder) → Extends ctx ctx' → (x : ℕ) (params : List Binder) (all : Trees) (ps : List Binder) (es : Trees) (qs : List Binder)
      → Fits sigs ctx es qs → InSomeFV sigs ctx' x params all ps es → InSomeFV sigs ctx x params all ps es
  some-fv-back sigs ctx ctx' l x params all ps none qs fits h = absurd h
  some-fv-back sigs ctx ctx' l x params all [] (more e es) qs fits h = absurd h
  some-fv-back sigs ctx ctx' l x params all (p ∷ ps) (more e es) [] fits h = absurd fits
  some-fv-back sigs ctx ctx' l x params all (p ∷ ps) (more e es) (q ∷ qs) fits (inl (regular, h, out)) = inl (regular, fv-back sigs ctx ctx' l x e q.sort fits.0 h, out)
  some-fv-back sigs ctx ctx' l x params all (p ∷ ps) (more e es) (q ∷ qs) fits (inr h) = inr (some-fv-back sigs ctx ctx' l x params all ps es qs fits.2 h)

mutual
  v-below : (ctx : List Binder) → DepsInside ctx → (x : ℕ) (e : Tree) → InV ctx x e → x < length ctx
  v-below ctx inside x (var y) (b, at, inl (bd, is)) = subst (λ z. z < length ctx) (sym is) (slice_get_within ctx y b at)
  v-below ctx inside x (var y) (b, at, inr (bd, has)) = inside y b at x has
  v-below ctx inside x (app t es) h = some-v-below ctx inside x es h

  some-v-below : (ctx : List Binder) → DepsInside ctx → (x : ℕ) (es : Trees) → InSomeV ctx x es → x < length ctx
  some-v-below ctx inside x none h = absurd h
  some-v-below ctx inside x (more e es) (inl h) = v-below ctx inside x e h
  some-v-below ctx inside x (more e es) (inr h) = some-v-below ctx inside x es h

pub told-extends : (mode : DepsMode) (sigs : List Signature) (ctx ctx' : List Binder) → Extends ctx ctx' → (e : Tree) (x : ℕ) → DependsOn mode sigs ctx e x → DependsOn mode sigs ctx' e x
told-extends of.All sigs ctx ctx' l e x h = in_v_extends ctx ctx' l x e h
told-extends of.Free sigs ctx ctx' l e x h = fv-extends sigs ctx ctx' l x e h

pub told-back : (mode : DepsMode) (sigs : List Signature) (ctx ctx' : List Binder) → Extends ctx ctx' → (e : Tree) (s x : ℕ) → HasSort sigs ctx e s → DependsOn mode sigs ctx' e x → DependsOn mode sigs ctx e x
told-back of.All sigs ctx ctx' l e s x sorted h = in_v_back sigs ctx ctx' l x e s sorted h
told-back of.Free sigs ctx ctx' l e s x sorted h = fv-back sigs ctx ctx' l x e s sorted h

pub told-below : (mode : DepsMode) (sigs : List Signature) (ctx : List Binder) → DepsInside ctx → (e : Tree) (s x : ℕ) → HasSort sigs ctx e s → DependsOn mode sigs ctx e x → x < length ctx
told-below of.All sigs ctx inside e s x sorted h = v-below ctx inside x e h
told-below of.Free sigs ctx inside e s x sorted h = free_below sigs ctx inside x e (range_of_sort sigs ctx e s sorted) h
