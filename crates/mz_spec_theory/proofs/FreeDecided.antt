-- Whether a result depends on each free variable of a body is decided.
use Rattle.std.proofs.Common.{◌≡◌, ◌⊎◌, ◌++◌, ℕ, zero, suc, List, [], ◌∷◌, true, false, Option, Some, None, slice_get, Contains, ap, sym, subst, inl, inr, arith}
use Rattle.mz_base.proofs.Offered.{contains-decided, either-decided, not-decided, three-decided, Decided, true-decided, false-decided, both-decided, implied-decided}
use Rattle.mz_logic_theory.specs.Tree.{Tree, Trees, var, app, none, more, operand}
use Rattle.mz_logic_theory.specs.Signature.{Signature}
use Rattle.mz_logic_theory.specs.Variables.{InV, InFV, InSomeFV, IsBoundAt, IsOperandAt}
use Rattle.mz_logic_theory.specs.declared.binder.Binder.{Binder}
use Rattle.mz_math_theory.proofs.Offered.{found, equal-decided, some-with}
use Rattle.mz_spec_theory.specs.Dependencies.{Every}
use Rattle.mz_spec_theory.proofs.Naming.{every-front}

-- ---- facts

pub every-decided : {A : Type 0} → (P : A → Type 0) → ((x : A) → Decided (P x)) → (xs : List A) → Decided (Every P xs)
every-decided P d [] = inl tt
every-decided P d (x ∷ xs) = both-decided (d x) (every-decided P d xs)

-- ---- free variables

var-decided : (t : Tree) (x : ℕ) → Decided (t ≡ var x)
var-decided (var y) x = go (equal-decided y x)
  where
    go : Decided (y ≡ x) → Decided (var y ≡ var x)
    go (inl same) = inl (ap var same)
    go (inr out) = inr (λ e. out (let same : y ≡ x = cc in same))
var-decided (app t es) x = inr (λ e. cc)

module _ (sigs : List Signature) (ctx : List Binder) (x : ℕ) where
  in_v-decided : (y : ℕ) → Decided (InV ctx x (var y))
  in_v-decided y =
      some-with (λ b. ((b.bound ≡ true) × (x ≡ y)) ⊎ ((b.bound ≡ false) × Contains b.deps x))
      (λ b. either-decided (both-decided (true-decided b.bound) (equal-decided x y)) (both-decided (false-decided b.bound) (contains-decided b.deps x))) (slice_get ctx y)

  operand-decided : (params : List Binder) (es : Trees) (places : List ℕ) → Decided (IsOperandAt params es places x)
  operand-decided params es places = go (found (λ j. IsBoundAt params j × (operand es j ≡ var x)) each places)
    where
      each : (j : ℕ) → Decided (IsBoundAt params j × (operand es j ≡ var x))
      each j = both-decided (some-with (λ b. b.bound ≡ true) (λ b. true-decided b.bound) (slice_get params j)) (var-decided (operand es j) x)

      go : ((j : ℕ) × Contains places j × (IsBoundAt params j × (operand es j ≡ var x))) ⊎ ((j : ℕ) → Contains places j → (IsBoundAt params j × (operand es j ≡ var x)) → ⊥) → Decided (IsOperandAt params es places x)
      go (inl (j, has, (bound, is))) = inl (j, has, bound, is)
      go (inr never) = inr (λ h. never h.0 h.1 (h.2, h.3))

  mutual
    in_fv-decided : (e : Tree) → Decided (InFV sigs ctx x e)
    in_fv-decided (var y) = in_v-decided y
    in_fv-decided (app t es) =
        some-with (λ d. InSomeFV sigs ctx x d.params es d.params es ⊎ IsOperandAt d.params es d.result.deps x)
        (λ d. either-decided (some_fv-decided d.params es d.params es) (operand-decided d.params es d.result.deps)) (slice_get sigs t)

    some_fv-decided : (params : List Binder) (all : Trees) (ps : List Binder) (es : Trees) → Decided (InSomeFV sigs ctx x params all ps es)
    some_fv-decided params all ps none = inr (λ h. h)
    some_fv-decided params all [] (more e es) = inr (λ h. h)
    some_fv-decided params all (p ∷ ps) (more e es) =
        either-decided (three-decided (false-decided p.bound) (in_fv-decided e) (not-decided (operand-decided params all p.deps))) (some_fv-decided params all ps es)

-- ---- the variables that may be free

abbrev deps_at : Option Binder → List ℕ
deps_at None = []
deps_at (Some b) = b.deps

abbrev mutual
  may_be_free : List Binder → Tree → List ℕ
  may_be_free ctx (var y) = y ∷ deps_at (slice_get ctx y)
  may_be_free ctx (app t es) = may_all ctx es

  may_all : List Binder → Trees → List ℕ
  may_all ctx none = []
  may_all ctx (more e es) = may_be_free ctx e ++ may_all ctx es

has-fact : (P : ℕ → Type 0) (xs : List ℕ) (x : ℕ) → Every P xs → Contains xs x → P x
has-fact P [] x all (k, below, is) = absurd (omega (arith, below))
has-fact P (y ∷ xs) x (p, all) (zero, below, is) = subst P is p
has-fact P (y ∷ xs) x (p, all) (suc k, below, is) = has-fact P xs x all (k, omega (arith, below), is)

module _ (sigs : List Signature) (ctx : List Binder) (P : ℕ → Type 0) where
  v-holds : (x y : ℕ) → P y → Every P (deps_at (slice_get ctx y)) → InV ctx x (var y) → P x
  v-holds x y here deps (b, at, inl (bound, same)) = subst P (sym same) here
  v-holds x y here deps (b, at, inr (free, has)) = has-fact P b.deps x (subst (λ o. Every P (deps_at o)) at deps) has

  operand-holds : (es : Trees) (j x : ℕ) → Every P (may_all ctx es) → operand es j ≡ var x → P x
  operand-holds none j x all is = absurd cc
  operand-holds (more e es) zero x all is = (subst (λ t. Every P (may_be_free ctx t)) is (every-front P (may_be_free ctx e) (may_all ctx es) all).0).0
  operand-holds (more e es) (suc j) x all is = operand-holds es j x (every-front P (may_be_free ctx e) (may_all ctx es) all).1 is

  mutual
    free-holds : (e : Tree) (x : ℕ) → Every P (may_be_free ctx e) → InFV sigs ctx x e → P x
    free-holds (var y) x (here, deps) is = v-holds x y here deps is
    free-holds (app t es) x all (d, at, inl is) = some-holds es x d.params es d.params all is
    free-holds (app t es) x all (d, at, inr (j, has, bound, is)) = operand-holds es j x all is

    some-holds : (es : Trees) (x : ℕ) (params : List Binder) (whole : Trees) (ps : List Binder) → Every P (may_all ctx es) → InSomeFV sigs ctx x params whole ps es → P x
    some-holds none x params whole ps all is = absurd is
    some-holds (more e es) x params whole [] all is = absurd is
    some-holds (more e es) x params whole (p ∷ ps) all (inl (free, is, out)) = free-holds e x (every-front P (may_be_free ctx e) (may_all ctx es) all).0 is
    some-holds (more e es) x params whole (p ∷ ps) all (inr is) = some-holds es x params whole ps (every-front P (may_be_free ctx e) (may_all ctx es) all).1 is

abbrev Within : List Signature → List Binder → Tree → List ℕ → ℕ → Type 0
Within sigs ctx e deps x = InFV sigs ctx x e → Contains deps x

-- each free variable is one of these, or one isn't
pub free-decided : (sigs : List Signature) (ctx : List Binder) (e : Tree) (deps : List ℕ) → Decided ((x : ℕ) → InFV sigs ctx x e → Contains deps x)
free-decided sigs ctx e deps =
    go (every-decided (Within sigs ctx e deps) (λ x. implied-decided (in_fv-decided sigs ctx x e) (contains-decided deps x)) (may_be_free ctx e))
  where
    each : (xs : List ℕ) → ((x : ℕ) → Within sigs ctx e deps x) → Every (Within sigs ctx e deps) xs
    each [] all = tt
    each (x ∷ xs) all = (all x, each xs all)

    go : Decided (Every (Within sigs ctx e deps) (may_be_free ctx e)) → Decided ((x : ℕ) → InFV sigs ctx x e → Contains deps x)
    go (inl all) = inl (λ x free. free-holds sigs ctx (Within sigs ctx e deps) e x all free free)
    go (inr out) = inr (λ all. out (each (may_be_free ctx e) all))
