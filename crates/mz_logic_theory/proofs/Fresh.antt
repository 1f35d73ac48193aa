-- Fresh variables at the end of a context, and operands followed by them.
use Rattle.std.proofs.Common.{ℕ, zero, suc, ◌≡◌, ◌⊎◌, ◌<◌, ◌+◌, true≢false, List, [], ◌∷◌, ◌++◌, slice_get, Contains, length, Some, refl, sym, ap, ◌∙◌, subst, inl, inr, arith, not-suc-le-zero, length-append}
use Rattle.std.proofs.lemmas.Option.{slice_get_within, none-some}
use Rattle.mz_base.proofs.Offered.{slice_get-append_add}
use Rattle.mz_logic_theory.specs.Tree.{Tree, Trees, var, app, none, more, operand, followed_by}
use Rattle.mz_logic_theory.specs.Signature.{Signature}
use Rattle.mz_logic_theory.specs.Sorts.{Fits}
use Rattle.mz_logic_theory.specs.Variables.{InV, InSomeV, AreDisjoint}
use Rattle.mz_logic_theory.specs.Legality.{Each, IsDummy}
use Rattle.mz_logic_theory.specs.declared.binder.Binder.{Binder}
use Rattle.mz_logic_theory.proofs.Instance.{one_at, bound_operand}
use Rattle.mz_logic_theory.proofs.AreDisjoint.{operand_has_sort}
use Rattle.mz_logic_theory.specs.Laws.{BoundArePlain}
use Rattle.mz_logic_theory.proofs.Extend.{extends_append, in_v_back}
use Rattle.mz_logic_theory.proofs.Compose.{operand_first, operand_later}
use Rattle.mz_logic_theory.proofs.Graft.{place_of}

-- bound variables have no dependencies, and dependencies are places of the context
pub record IsScoped (ctx : List Binder) : Type 0 where
  pub no_deps : BoundArePlain ctx
  pub inside : (i : ℕ) (b : Binder) → slice_get ctx i ≡ Some b → (x : ℕ) → Contains b.deps x → x < length ctx

pub split_at : {A : Type 0} (xs ys : List A) (i : ℕ) (x : A) → slice_get (xs ++ ys) i ≡ Some x
    → (slice_get xs i ≡ Some x) ⊎ ((k : ℕ) × (i ≡ length xs + k) × (slice_get ys k ≡ Some x))
split_at [] ys i x at = inr (i, omega arith, at)
split_at (a ∷ xs) ys zero x at = inl at
split_at (a ∷ xs) ys (suc i) x at = elim (split_at xs ys i x at) [
  | inl here ↦ inl here
  | inr later ↦ inr (later.0, (let e : i ≡ length xs + later.0 = later.1 in omega arith), later.2)
]

mutual
  pub in_v_below : (ctx : List Binder) → IsScoped ctx → (x : ℕ) (e : Tree) → InV ctx x e → x < length ctx
  in_v_below ctx scoped x (var y) (b, at, inl (bd, is)) = subst (λ z. z < length ctx) (sym is) (slice_get_within ctx y b at)
  in_v_below ctx scoped x (var y) (b, at, inr (bd, has)) = scoped.inside y b at x has
  in_v_below ctx scoped x (app t es) h = in_some_v_below ctx scoped x es h

  pub in_some_v_below : (ctx : List Binder) → IsScoped ctx → (x : ℕ) (es : Trees) → InSomeV ctx x es → x < length ctx
  in_some_v_below ctx scoped x none h = absurd h
  in_some_v_below ctx scoped x (more e es) (inl h) = in_v_below ctx scoped x e h
  in_some_v_below ctx scoped x (more e es) (inr h) = in_some_v_below ctx scoped x es h

-- the variables from n on, one for each binder
abbrev pub fresh : ℕ → List Binder → Trees
fresh n [] = none
fresh n (b ∷ bs) = more (var n) (fresh (suc n) bs)

pub fresh_at : (n : ℕ) (bs : List Binder) (k : ℕ) (b : Binder) → slice_get bs k ≡ Some b → operand (fresh n bs) k ≡ var (n + k)
fresh_at n [] k b at = absurd (none-some _ at)
fresh_at n (c ∷ bs) zero b at = ap var (omega arith)
fresh_at n (c ∷ bs) (suc k) b at = fresh_at (suc n) bs k b at ∙ ap var (omega arith)

abbrev pub AreAllDummies : List Binder → Type 0
AreAllDummies bs = Each bs (λ _ b. IsDummy b)

pub fresh_fits : (sigs : List Signature) (ctx : List Binder) (n : ℕ) (bs : List Binder)
    → ((k : ℕ) (b : Binder) → slice_get bs k ≡ Some b → slice_get ctx (n + k) ≡ Some b) → AreAllDummies bs → Fits sigs ctx (fresh n bs) bs
fresh_fits sigs ctx n [] there dummies = tt
fresh_fits sigs ctx n (b ∷ bs) there dummies = (
  (b, at_n, refl),
  λ _. (n, b, refl, at_n, (dummies zero b refl).0),
  fresh_fits sigs ctx (suc n) bs (λ k c at. ap (slice_get ctx) (shift k) ∙ there (suc k) c at) (λ k c at. dummies (suc k) c at),
)
  where
    at_n : slice_get ctx n ≡ Some b
    at_n = ap (slice_get ctx) same ∙ there zero b refl
      where
        same : n ≡ n + zero
        same = omega arith

    shift : (k : ℕ) → suc n + k ≡ n + suc k
    shift k = omega arith

pub scoped_with_dummies : (ctx bs : List Binder) → IsScoped ctx → AreAllDummies bs → IsScoped (ctx ++ bs)
scoped_with_dummies ctx bs scoped dummies = record { no_deps = no_deps'; inside = inside' }
  where
    no_deps' : BoundArePlain (ctx ++ bs)
    no_deps' i b at bd = elim (split_at ctx bs i b at) [ inl here ↦ scoped.no_deps i b here bd | inr later ↦ (dummies later.0 b later.2).1 ]

    none_in : (x : ℕ) → Contains [] x → ⊥
    none_in x (k, below, _) = not-suc-le-zero below

    inside' : (i : ℕ) (b : Binder) → slice_get (ctx ++ bs) i ≡ Some b → (x : ℕ) → Contains b.deps x → x < length (ctx ++ bs)
    inside' i b at x has = elim (split_at ctx bs i b at) [
      | inl here ↦ (let below : x < length ctx = scoped.inside i b here x has in omega (arith, length-append ctx bs))
      | inr later ↦ absurd (none_in x (subst (λ ds. Contains ds x) (dummies later.0 b later.2).1 has))
    ]

-- operands that are disjoint stay so when fresh variables follow them
module _ (sigs : List Signature) (ctx : List Binder) (scoped : IsScoped ctx) (es : Trees) (ps : List Binder) (fits : Fits sigs ctx es ps) (apart : AreDisjoint ctx es ps)
    (bs : List Binder) (dummies : AreAllDummies bs) where
  f_first : (i : ℕ) (p : Binder) → slice_get ps i ≡ Some p → operand (followed_by es (fresh (length ctx) bs)) i ≡ operand es i
  f_first i p at = operand_first sigs ctx es (fresh (length ctx) bs) ps fits i p at

  f_later : (i k : ℕ) (p : Binder) → i ≡ length ps + k → slice_get bs k ≡ Some p → operand (followed_by es (fresh (length ctx) bs)) i ≡ var (length ctx + k)
  f_later i k p is at = ap (operand (followed_by es (fresh (length ctx) bs))) is ∙ operand_later sigs ctx es (fresh (length ctx) bs) ps fits k ∙ fresh_at (length ctx) bs k p at

  -- V of a fresh variable
  in_fresh : (x k : ℕ) (b : Binder) → slice_get bs k ≡ Some b → InV (ctx ++ bs) x (var (length ctx + k)) → x ≡ length ctx + k
  in_fresh x k b at (c, at', inl (bd, is)) = is
  in_fresh x k b at (c, at', inr (bd, has)) =
      absurd (true≢false (sym (dummies k b at).0 ∙ ap (λ d. d.bound) (one_at (slice_get-append_add ctx bs k ∙ at) at') ∙ bd))

  pub apart_fresh : AreDisjoint (ctx ++ bs) (followed_by es (fresh (length ctx) bs)) (ps ++ bs)
  apart_fresh i j x p q at_i at_j bd is_x has = go (split_at ps bs i p at_i) (split_at ps bs j q at_j)
    where
      go : (slice_get ps i ≡ Some p) ⊎ ((k : ℕ) × (i ≡ length ps + k) × (slice_get bs k ≡ Some p))
          → (slice_get ps j ≡ Some q) ⊎ ((k : ℕ) × (j ≡ length ps + k) × (slice_get bs k ≡ Some q)) → (i ≡ j) ⊎ Contains p.deps j
      go (inl ai) (inl aj) =
          apart i j x p q ai aj bd (sym (f_first j q aj) ∙ is_x)
          (in_v_back sigs ctx (ctx ++ bs) (extends_append ctx bs) x (operand es i) p.sort (operand_has_sort sigs ctx es ps fits i p ai) (subst (InV (ctx ++ bs) x) (f_first i p ai) has))
      go (inl ai) (inr (k, is_j, aj)) =
          let x_is : length ctx + k ≡ x = ap place_of (sym (f_later j k q is_j aj) ∙ is_x) in
          let below : x < length ctx = in_v_below ctx scoped x (operand es i)
          (in_v_back sigs ctx (ctx ++ bs) (extends_append ctx bs) x (operand es i) p.sort (operand_has_sort sigs ctx es ps fits i p ai) (subst (InV (ctx ++ bs) x) (f_first i p ai) has)) in
          absurd (omega arith)
      go (inr (k, is_i, ai)) (inl aj) =
          let b = bound_operand sigs ctx ps es fits j q aj bd in
          let same : b.0 ≡ x = ap place_of (sym b.2 ∙ sym (f_first j q aj) ∙ is_x) in
          let below : b.0 < length ctx = slice_get_within ctx b.0 b.1 b.3 in
          let x_is : x ≡ length ctx + k = in_fresh x k p ai (subst (InV (ctx ++ bs) x) (f_later i k p is_i ai) has) in
          absurd (omega arith)
      go (inr (k, is_i, ai)) (inr (m, is_j, aj)) =
          let x_is : length ctx + m ≡ x = ap place_of (sym (f_later j m q is_j aj) ∙ is_x) in
          let x_is' : x ≡ length ctx + k = in_fresh x k p ai (subst (InV (ctx ++ bs) x) (f_later i k p is_i ai) has) in
          inl (omega arith)
