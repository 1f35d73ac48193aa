-- The test of free variables decides them.
use Rattle.std.proofs.Common.{◌≡◌, ◌<◌, ℕ, zero, suc, Bool, true, false, eqb, List, [], ◌∷◌, Option, Some, None, refl, sym, ap, subst, ◌∙◌, ◌⊎◌, inl, inr, arith, eq-eqb, not-suc-le-zero}
use Rattle.std.specs.Prelude.{slice_get, Contains, ◌||◌, ◌&&◌, not}
use Rattle.std.proofs.lemmas.Bool.{eqb-true, and_from, or_right, or_left, not_from_false, cases_Bool}
use Rattle.mz_base.proofs.Offered.{both-true, not-true, or-cases}
use Rattle.mz_logic_theory.specs.Tree.{Tree, Trees, var, app, none, more, operand}
use Rattle.mz_logic_theory.specs.Signature.{Signature}
use Rattle.mz_logic_theory.specs.Variables.{InFV, InSomeFV, IsBoundAt, IsOperandAt, is_member}
use Rattle.mz_logic_theory.specs.declared.binder.Binder.{Binder}
use Rattle.mz_machine_theory.specs.Tests.{is_bound_at}
use Rattle.mz_machine_theory.proofs.TestLaws.{not-both, member-contains, in-v-true, v-in}
use Rattle.mz_machine_theory.specs.FreeVars.{is_var, named_at, in_result, params_of, in_fv, in_some_fv, free_within}

is-var-true : (x : ℕ) (e : Tree) → is_var x e ≡ true → e ≡ var x
is-var-true x (var y) h = ap var (sym (eqb-true _ _ h))
is-var-true x (app t es) h = absurd cc

var-is-var : (x : ℕ) (e : Tree) → e ≡ var x → is_var x e ≡ true
var-is-var x e is = rw is (eq-eqb x x refl)

bound-at : (params : List Binder) (j : ℕ) → is_bound_at (slice_get params j) ≡ true → IsBoundAt params j
bound-at params j h = go (slice_get params j) refl h
  where
    go : (o : Option Binder) → slice_get params j ≡ o → is_bound_at o ≡ true → IsBoundAt params j
    go None at t = absurd cc
    go (Some b) at t = (b, at, t)

named-true : (params : List Binder) (all : Trees) (js : List ℕ) (x : ℕ) → named_at params all js x ≡ true → IsOperandAt params all js x
named-true params all [] x h = absurd cc
named-true params all (j ∷ js) x h = elim (or-cases (is_bound_at (slice_get params j) && is_var x (operand all j)) (named_at params all js x) h) [
  | inl here ↦ (let (b, v) = both-true (is_bound_at (slice_get params j)) (is_var x (operand all j)) here in (j, (0, omega arith, refl), bound-at params j b, is-var-true x (operand all j) v))
  | inr there ↦ (let (i, (k, lt, is), b, v) = named-true params all js x there in (i, (suc k, omega arith, is), b, v))
]

named-in : (params : List Binder) (all : Trees) (js : List ℕ) (x : ℕ) → IsOperandAt params all js x → named_at params all js x ≡ true
named-in params all [] x (j, (k, lt, is), _, _) = absurd (not-suc-le-zero lt)
named-in params all (i ∷ js) x (j, (zero, lt, is), (b, at, bound), v) =
    or_left (is_bound_at (slice_get params i) && is_var x (operand all i)) (named_at params all js x)
    (and_from (is_bound_at (slice_get params i)) (is_var x (operand all i)) (ap is_bound_at (ap (slice_get params) is ∙ at) ∙ bound) (var-is-var x (operand all i) (ap (operand all) is ∙ v)))
named-in params all (i ∷ js) x (j, (suc k, lt, is), b, v) =
    or_right (is_bound_at (slice_get params i) && is_var x (operand all i)) (named_at params all js x) (named-in params all js x (j, (k, omega arith, is), b, v))

mutual
  pub fv-in : (sigs : List Signature) (ctx : List Binder) (x : ℕ) (e : Tree) → InFV sigs ctx x e → in_fv sigs ctx x e ≡ true
  fv-in sigs ctx x (var y) h = v-in ctx x (var y) h
  fv-in sigs ctx x (app t es) (d, at, inl some) =
      or_left (in_some_fv sigs ctx x (params_of (slice_get sigs t)) es (params_of (slice_get sigs t)) es) (in_result (slice_get sigs t) es x) (rw at (some-fv-in sigs ctx x d.params es d.params es some))
  fv-in sigs ctx x (app t es) (d, at, inr named) =
      or_right (in_some_fv sigs ctx x (params_of (slice_get sigs t)) es (params_of (slice_get sigs t)) es) (in_result (slice_get sigs t) es x) (rw at (named-in d.params es d.result.deps x named))

  some-fv-in : (sigs : List Signature) (ctx : List Binder) (x : ℕ) (params : List Binder) (all : Trees) (ps : List Binder) (es : Trees) → InSomeFV sigs ctx x params all ps es → in_some_fv sigs ctx x params all ps es ≡ true
  some-fv-in sigs ctx x params all ps none h = absurd h
  some-fv-in sigs ctx x params all [] (more e es) h = absurd h
  some-fv-in sigs ctx x params all (p ∷ ps) (more e es) (inl (regular, free, out)) =
      or_left (not p.bound && in_fv sigs ctx x e && not (named_at params all p.deps x)) (in_some_fv sigs ctx x params all ps es)
      (three (not p.bound) (in_fv sigs ctx x e) (not (named_at params all p.deps x)) (not_from_false p.bound regular) (fv-in sigs ctx x e free) (open-one (cases_Bool (named_at params all p.deps x))))
    where
      three : (a b c : Bool) → a ≡ true → b ≡ true → c ≡ true → (a && b && c) ≡ true
      three true true c p q r = r
      three true false c p q r = absurd cc
      three false b c p q r = absurd cc

      open-one : (named_at params all p.deps x ≡ true) ⊎ (named_at params all p.deps x ≡ false) → not (named_at params all p.deps x) ≡ true
      open-one (inl t) = absurd (out (named-true params all p.deps x t))
      open-one (inr f) = not_from_false (named_at params all p.deps x) f
  some-fv-in sigs ctx x params all (p ∷ ps) (more e es) (inr h) =
      or_right (not p.bound && in_fv sigs ctx x e && not (named_at params all p.deps x)) (in_some_fv sigs ctx x params all ps es) (some-fv-in sigs ctx x params all ps es h)

mutual
  pub in-fv-true : (sigs : List Signature) (ctx : List Binder) (x : ℕ) (e : Tree) → in_fv sigs ctx x e ≡ true → InFV sigs ctx x e
  in-fv-true sigs ctx x (var y) h = in-v-true ctx x (var y) h
  in-fv-true sigs ctx x (app t es) h = go (slice_get sigs t) refl h λ d some. in-some-fv-true sigs ctx x d.params es d.params es some
    where
      go : (o : Option Signature) → slice_get sigs t ≡ o → (in_some_fv sigs ctx x (params_of o) es (params_of o) es || in_result o es x) ≡ true
          → ((d : Signature) → in_some_fv sigs ctx x d.params es d.params es ≡ true → InSomeFV sigs ctx x d.params es d.params es) → InFV sigs ctx x (app t es)
      go None at e' later = absurd (nothing es e')
        where
          nothing : (fs : Trees) → (in_some_fv sigs ctx x [] es [] fs || false) ≡ true → ⊥
          nothing none t' = cc
          nothing (more f fs) t' = cc
      go (Some d) at e' later = elim (or-cases (in_some_fv sigs ctx x d.params es d.params es) (named_at d.params es d.result.deps x) e') [
        | inl some ↦ (d, at, inl (later d some))
        | inr named ↦ (d, at, inr (named-true d.params es d.result.deps x named))
      ]

  in-some-fv-true : (sigs : List Signature) (ctx : List Binder) (x : ℕ) (params : List Binder) (all : Trees) (ps : List Binder) (es : Trees) → in_some_fv sigs ctx x params all ps es ≡ true → InSomeFV sigs ctx x params all ps es
  in-some-fv-true sigs ctx x params all ps none h = absurd cc
  in-some-fv-true sigs ctx x params all [] (more e es) h = absurd cc
  in-some-fv-true sigs ctx x params all (p ∷ ps) (more e es) h =
      elim (or-cases (not p.bound && in_fv sigs ctx x e && not (named_at params all p.deps x)) (in_some_fv sigs ctx x params all ps es) h) [
        | inl here ↦ (let (front, out) = both-true (not p.bound && in_fv sigs ctx x e) (not (named_at params all p.deps x)) here in
            let (regular, free) = both-true (not p.bound) (in_fv sigs ctx x e) front in
            inl (not-true p.bound regular, in-fv-true sigs ctx x e free, λ named. not-both (named_at params all p.deps x) (named-in params all p.deps x named) (not-true (named_at params all p.deps x) out)))
        | inr there ↦ inr (in-some-fv-true sigs ctx x params all ps es there)
      ]

-- where the test passes, each free variable of the context is at one of the places
pub free-within : (sigs : List Signature) (ctx : List Binder) (deps : List ℕ) (e : Tree) (n x : ℕ) → free_within sigs ctx deps e n ≡ true → x < n → InFV sigs ctx x e → Contains deps x
free-within sigs ctx deps e zero x h lt free = absurd (not-suc-le-zero lt)
free-within sigs ctx deps e (suc n) x h lt free = go (eqb x n) refl (free-within sigs ctx deps e n x (both-true (not (in_fv sigs ctx n e) || is_member n deps) (free_within sigs ctx deps e n) h).1)
  where
    implied : (a b : Bool) → (not a || b) ≡ true → a ≡ true → b ≡ true
    implied true b p q = p
    implied false b p q = absurd cc

    last : in_fv sigs ctx n e ≡ true → Contains deps n
    last t = member-contains n deps (implied (in_fv sigs ctx n e) (is_member n deps) (both-true (not (in_fv sigs ctx n e) || is_member n deps) (free_within sigs ctx deps e n) h).0 t)

    go : (b : Bool) → eqb x n ≡ b → (x < n → InFV sigs ctx x e → Contains deps x) → Contains deps x
    go true is later = let same : x ≡ n = eqb-true _ _ is in subst (Contains deps) (sym same) (last (ap (λ (z : ℕ). in_fv sigs ctx z e) (sym same) ∙ fv-in sigs ctx x e free))
    go false is later = later (less is) free
      where
        less : eqb x n ≡ false → x < n
        less f = let differ : x ≡ n → ⊥ = λ s. not-both (eqb x n) (eq-eqb x n s) f in omega arith
