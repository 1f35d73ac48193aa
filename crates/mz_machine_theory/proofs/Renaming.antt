-- Sorts and free variables go back from an expression to the one that it renames.
use Rattle.std.proofs.Common.{◌≡◌, ℕ, zero, suc, ◌+◌, ◌<◌, List, [], ◌∷◌, ◌++◌, length, Some, refl, sym, ap, subst, ◌∙◌, inl, inr, arith}
use Rattle.std.specs.Prelude.{slice_get}
use Rattle.mz_base.proofs.Offered.{slice_get-some as there}
use Rattle.mz_logic_theory.specs.Tree.{Tree, Trees, var, app, none, more, operand, instance, instances}
use Rattle.mz_logic_theory.specs.Signature.{Signature}
use Rattle.mz_logic_theory.specs.Sorts.{IsBoundVar, HasSort, Fits}
use Rattle.mz_logic_theory.specs.Variables.{InV, InFV, InSomeFV, IsOperandAt}
use Rattle.mz_logic_theory.specs.declared.binder.Binder.{Binder}
use Rattle.mz_logic_theory.proofs.Offered.{extends_append, same-variable}
use Rattle.mz_machine_theory.specs.Spells.{trees_of, variables_from}
use Rattle.mz_machine_theory.proofs.Inverting.{some_is}
use Rattle.mz_machine_theory.proofs.Below.{Below, AllBelow}

pub no-app : (t : ℕ) (es : Trees) (x : ℕ) → app t es ≡ var x → ⊥
no-app t es x e = cc

-- the variable x of ctx' is put for by a variable of ctx with the same sort and binding
abbrev pub Renames : List Binder → List Binder → Trees → (ℕ → ℕ) → ℕ → Type 0
Renames ctx ctx' f g x = (operand f x ≡ var (g x)) × ((b : Binder) × (b' : Binder) × (slice_get ctx (g x) ≡ Some b) × (slice_get ctx' x ≡ Some b') × (b.sort ≡ b'.sort) × (b.bound ≡ b'.bound))

module _ (sigs : List Signature) (ctx ctx' : List Binder) (f : Trees) (g : ℕ → ℕ) (top : ℕ) (renames : (x : ℕ) → x < top → Renames ctx ctx' f g x) where
  bound-back : (e : Tree) → Below top e → IsBoundVar ctx (instance f e) → IsBoundVar ctx' e
  bound-back (var x) lt (z, c, is, at, bound) =
      let (put, (b, b', b-at, b'-at, sort-is, bound-is)) = renames x lt in
      let same : g x ≡ z = same-variable (g x) z (sym put ∙ is) in
      let c-is : c ≡ b = some_is (ap (slice_get ctx) same ∙ at) b-at in
      (x, b', refl, b'-at, sym bound-is ∙ ap (λ (y : Binder). y.bound) (sym c-is) ∙ bound)
  bound-back (app t es) lt (z, c, is, at, bound) = absurd (no-app t (instances f es) z is)

  mutual
    pub sort-back : (e : Tree) (s : ℕ) → Below top e → HasSort sigs ctx (instance f e) s → HasSort sigs ctx' e s
    sort-back (var x) s lt h =
        let (put, (b, b', b-at, b'-at, sort-is, bound-is)) = renames x lt in
        let (c, c-at, c-sort) = subst (λ (z : Tree). HasSort sigs ctx z s) put h in
        (b', b'-at, sym sort-is ∙ ap (λ (y : Binder). y.sort) (sym (some_is c-at b-at)) ∙ c-sort)
    sort-back (app t es) s below (d, at, is, fits) = (d, at, is, fits-back es d.params below fits)

    pub fits-back : (es : Trees) (ps : List Binder) → AllBelow top es → Fits sigs ctx (instances f es) ps → Fits sigs ctx' es ps
    fits-back none [] below h = tt
    fits-back none (p ∷ ps) below h = absurd h
    fits-back (more e es) [] below h = absurd h
    fits-back (more e es) (p ∷ ps) (e-below, below) (h, bound, rest) = (sort-back e p.sort e-below h, λ is. bound-back e e-below (bound is), fits-back es ps below rest)

  -- ---- free variables

  module _ (injective : (x z : ℕ) → x < top → z < top → g x ≡ g z → x ≡ z)
      (v-forward : (x z : ℕ) → x < top → z < top → InV ctx' x (var z) → InV ctx (g x) (var (g z))) where
    name-back : (x : ℕ) (e : Tree) → x < top → Below top e → instance f e ≡ var (g x) → e ≡ var x
    name-back x (var z) lt below is = ap var (injective z x below lt (same-variable (g z) (g x) (sym (renames z below).0 ∙ is)))
    name-back x (app t es) lt below is = absurd (no-app t (instances f es) (g x) is)

    operand-below : (es : Trees) (j : ℕ) → AllBelow top es → Below top (operand es j)
    operand-below none j below = tt
    operand-below (more e es) zero below = below.0
    operand-below (more e es) (suc j) below = operand-below es j below.1

    operand-instances : (es : Trees) (j : ℕ) → instance f (operand es j) ≡ operand (instances f es) j
    operand-instances none j = refl
    operand-instances (more e es) zero = refl
    operand-instances (more e es) (suc j) = operand-instances es j

    mutual
      pub fv-forward : (x : ℕ) → x < top → (e : Tree) → Below top e → InFV sigs ctx' x e → InFV sigs ctx (g x) (instance f e)
      fv-forward x lt (var z) below h = subst (λ (y : Tree). InFV sigs ctx (g x) y) (sym (renames z below).0) (v-forward x z lt below h)
      fv-forward x lt (app t es) below (d, at, inl some) = (d, at, inl (some-forward x lt d.params es d.params es below below some))
      fv-forward x lt (app t es) below (d, at, inr (j, has, bound, is)) =
          (d, at, inr (j, has, bound, sym (operand-instances es j) ∙ ap (instance f) is ∙ (renames x lt).0))

      some-forward : (x : ℕ) → x < top → (params : List Binder) (all : Trees) (ps : List Binder) (es : Trees) → AllBelow top all → AllBelow top es → InSomeFV sigs ctx' x params all ps es → InSomeFV sigs ctx (g x) params (instances f all) ps (instances f es)
      some-forward x lt params all ps none all-below below h = absurd h
      some-forward x lt params all [] (more e es) all-below below h = absurd h
      some-forward x lt params all (p ∷ ps) (more e es) all-below below (inl (regular, free, out)) =
          inl (
            regular,
            fv-forward x lt e below.0 free,
            λ (named : IsOperandAt params (instances f all) p.deps (g x)).
                out (named.0, named.1, named.2, name-back x (operand all named.0) lt (operand-below all named.0 all-below) (operand-instances all named.0 ∙ named.3)),
          )
      some-forward x lt params all (p ∷ ps) (more e es) all-below below (inr h) = inr (some-forward x lt params all ps es all-below below.1 h)

-- ---- the parameters alone

pub first-operand : (j : ℕ) (ps : List Binder) (x : ℕ) → x < length ps → operand (trees_of (variables_from j ps)) x ≡ var (j + x)
first-operand j [] x lt = absurd (omega arith)
first-operand j (p ∷ ps) zero lt = ap var (omega arith)
first-operand j (p ∷ ps) (suc x) lt = first-operand (suc j) ps x (omega arith) ∙ ap var (omega arith)

mutual
  instance-kept : (f : Trees) (top : ℕ) → ((x : ℕ) → x < top → operand f x ≡ var x) → (e : Tree) → Below top e → instance f e ≡ e
  instance-kept f top kept (var x) lt = kept x lt
  instance-kept f top kept (app t es) below = ap (app t) (instances-kept f top kept es below)

  instances-kept : (f : Trees) (top : ℕ) → ((x : ℕ) → x < top → operand f x ≡ var x) → (es : Trees) → AllBelow top es → instances f es ≡ es
  instances-kept f top kept none below = refl
  instances-kept f top kept (more e es) (e-below, below) = ap (λ (z : Tree). more z (instances f es)) (instance-kept f top kept e e-below) ∙ ap (more e) (instances-kept f top kept es below)

-- what has a sort over parameters and dummies, and no dummies, has it over the parameters
pub sort-over-params : (sigs : List Signature) (params dummies : List Binder) (e : Tree) (s : ℕ) → Below (length params) e → HasSort sigs (params ++ dummies) e s → HasSort sigs params e s
sort-over-params sigs params dummies e s below h =
    let f : Trees = trees_of (variables_from 0 params) in
    let kept : (x : ℕ) → x < length params → operand f x ≡ var x = λ x lt. first-operand 0 params x lt ∙ ap var (omega arith) in
    let renames : (x : ℕ) → x < length params → Renames (params ++ dummies) params f (λ y. y) x =
    λ x lt. let (b, at) = there params x lt in (kept x lt, (b, b, extends_append params dummies x b at, at, refl, refl)) in
    sort-back sigs (params ++ dummies) params f (λ y. y) (length params) renames e s below
    (subst (λ (z : Tree). HasSort sigs (params ++ dummies) z s) (sym (instance-kept f (length params) kept e below)) h)
