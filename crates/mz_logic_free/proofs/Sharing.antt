-- Whether expressions name one of many variables.
use Rattle.std.proofs.Common.{◌≡◌, ◌∙◌, ◌<◌, ◌+◌, ◌⊎◌, ◌↔◌, ℕ, List, [], ◌∷◌, length, drop, get_or, slice_get, Some, None, Contains, Bool, true, false, IsTrue, ap, sym, subst, inl, inr, arith}
use Rattle.mz_base.proofs.Offered.{drop-item, contains_tail, contains_head, contains_cases}
use Rattle.mz_logic_theory.specs.Tree.{Tree, Trees, var, none, more, under}
use Rattle.mz_logic_theory.specs.Variables.{InV, InSomeV}
use Rattle.mz_logic_theory.specs.View.{tree, trees}
use Rattle.mz_logic_theory.specs.declared.binder.Binder.{Binder}
use Rattle.mz_logic_theory.specs.declared.expr.Expr.{Expr}
use Rattle.mz_logic_theory.proofs.Offered.{in_v-under, one_at}

-- of the variables that are sought, one is in V of one of the expressions
abbrev pub SomeName : List Binder → (ℕ → Type 0) → Trees → Type 0
SomeName ctx P es = (x : ℕ) × P x × InSomeV ctx x es

-- one of them is in V of the expression
abbrev pub Names : List Binder → (ℕ → Type 0) → Tree → Type 0
Names ctx P e = (x : ℕ) × P x × InV ctx x e

-- one of them is at one of the places
abbrev pub HasAny : (ℕ → Type 0) → List ℕ → Type 0
HasAny P ps = (x : ℕ) × P x × Contains ps x

-- one that is among the variables and isn't its own
abbrev pub IsOther : List ℕ → List ℕ → ℕ → Type 0
IsOther xs own x = Contains xs x × (Contains own x → ⊥)

-- one that is at one of the places and isn't its own
abbrev pub IsAtOther : List ℕ → List ℕ → ℕ → Type 0
IsAtOther ps own x = (Contains own x → ⊥) × Contains ps x

-- one of the variables is at one of the places, whichever of both are gone through
pub turned-round : (xs own ps : List ℕ) (b : Bool) → IsTrue b ↔ HasAny (IsAtOther ps own) xs → IsTrue b ↔ HasAny (IsOther xs own) ps
turned-round xs own ps b (to, from) = (λ is. (let (x, other, has) = to is in (x, (has, other.0), other.1)), λ (x, has, at). from (x, (has.1, at), has.0))

-- where there are none, none is in them
pub none-has : (xs : List ℕ) (x : ℕ) → length xs ≡ 0 → Contains xs x → ⊥
none-has xs x empty (k, below, _) = absurd (let e : k < length xs = below in omega (arith, e, empty))

-- ---- expressions one after another

module _ (ctx : List Binder) (P : ℕ → Type 0) (es fs : Trees) (e : Tree) (cut : es ≡ more e fs) (W : Type 0) (left : SomeName ctx P es ↔ W) where
  whole : SomeName ctx P (more e fs) ↔ W
  whole = subst (λ ys. SomeName ctx P ys ↔ W) cut left

  pub names-here : Names ctx P e → W
  names-here (x, has, here) = whole.0 (x, has, inl here)

  pub names-behind : (Names ctx P e → ⊥) → SomeName ctx P fs ↔ W
  names-behind out = (
    λ (x, has, behind). whole.0 (x, has, inr behind),
    λ w. (let (x, has, free) = whole.1 w in elim free [ inl here ↦ absurd (out (x, has, here)) | inr behind ↦ (x, has, behind) ]),
  )

-- terms of one parameter name nothing
pub names-under : (ctx : List Binder) (P : ℕ → Type 0) (ts : List ℕ) (e : Tree) (W : Type 0) → W ↔ Names ctx P e → W ↔ Names ctx P (under ts e)
names-under ctx P ts e W (to, from) = (
  λ w. (let (x, has, here) = to w in (x, has, (in_v-under ctx x ts e).1 here)),
  λ (x, has, here). from (x, has, (in_v-under ctx x ts e).0 here),
)

pub names-none : (ctx : List Binder) (P : ℕ → Type 0) (es : Trees) (W : Type 0) → es ≡ none → SomeName ctx P es ↔ W → W → ⊥
names-none ctx P es W empty left w = (let (x, has, free) = (subst (λ ys. SomeName ctx P ys ↔ W) empty left).1 w in free)

pub cut-trees : (xs : List Expr) (i : ℕ) (e : Expr) → i < length xs → e ≡ get_or xs i e → trees (drop i xs) ≡ more (tree e) (trees (drop (i + 1) xs))
cut-trees xs i e within is = ap trees (drop-item xs i e within is)

-- where none is its own
pub but-none : (ctx : List Binder) (xs own : List ℕ) → ((x : ℕ) → Contains own x → ⊥) → (es : Trees) (b : Bool) → IsTrue b ↔ SomeName ctx (IsOther xs own) es → IsTrue b ↔ SomeName ctx (Contains xs) es
but-none ctx xs own none-in es b (to, from) = (
  λ is. (let (x, has, free) = to is in (x, has.0, free)),
  λ (x, has, free). from (x, (has, none-in x), free),
)

-- ---- a variable

module _ (ctx : List Binder) (P : ℕ → Type 0) (y : ℕ) where
  -- what its binder says of it
  abbrev pub Tells : Binder → Type 0
  Tells b = (x : ℕ) × P x × (((b.bound ≡ true) × (x ≡ y)) ⊎ ((b.bound ≡ false) × Contains b.deps x))

  pub names-nothing : None ≡ slice_get ctx y → Names ctx P (var y) → ⊥
  names-nothing out (x, has, (b, at, is)) = absurd (let e : None ≡ Some b = out ∙ at in cc)

  pub names-by : (b : Binder) (W : Type 0) → Some b ≡ slice_get ctx y → W ↔ Tells b → W ↔ Names ctx P (var y)
  names-by b W at (to, from) = (
    λ w. (let (x, has, is) = to w in (x, has, (b, sym at, is))),
    λ (x, has, (c, at', is)). from (x, has, subst (λ (d : Binder). ((d.bound ≡ true) × (x ≡ y)) ⊎ ((d.bound ≡ false) × Contains d.deps x)) (one_at at' (sym at)) is),
  )

-- ---- places

module _ (P : ℕ → Type 0) (ps qs : List ℕ) (p : ℕ) (cut : ps ≡ p ∷ qs) (W : Type 0) (left : HasAny P ps ↔ W) where
  all-places : HasAny P (p ∷ qs) ↔ W
  all-places = subst (λ ys. HasAny P ys ↔ W) cut left

  pub place-here : P p → W
  place-here has = all-places.0 (p, has, contains_head p qs)

  pub places-behind : (P p → ⊥) → HasAny P qs ↔ W
  places-behind out = (
    λ (x, has, behind). all-places.0 (x, has, contains_tail p x qs behind),
    λ w. (let (x, has, at) = all-places.1 w in elim (contains_cases p x qs at) [ inl same ↦ absurd (out (subst P (sym same) has)) | inr behind ↦ (x, has, behind) ]),
  )

pub places-none : (P : ℕ → Type 0) (ps : List ℕ) (W : Type 0) → ps ≡ [] → HasAny P ps ↔ W → W → ⊥
places-none P ps W empty left w = (let (x, has, (k, below, _)) = (subst (λ ys. HasAny P ys ↔ W) empty left).1 w in absurd (let e : k < 0 = below in omega (arith, e)))
