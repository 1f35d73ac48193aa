-- What is kept of expressions whose terms have other numbers.
use Rattle.std.proofs.Common.{◌≡◌, ◌⊎◌, ◌∙◌, ℕ, zero, suc, List, [], ◌∷◌, length, Some, ap, sym, refl, subst, inl, inr}
use Rattle.std.specs.Prelude.{⊤, slice_get}
use Rattle.std.proofs.lemmas.Option.{slice_get_within}
use Rattle.mz_logic_theory.specs.Tree.{Tree, Trees, var, app, none, more, listed, operand}
use Rattle.mz_logic_theory.specs.Signature.{Signature}
use Rattle.mz_logic_theory.specs.Variables.{InFV, InSomeFV, IsOperandAt}
use Rattle.mz_logic_theory.specs.Legality.{EachTree, SortsFit, BoundFit, sort_of, signature_at, InRange, AllInRange, Operands, OperandsOf}
use Rattle.mz_logic_theory.specs.declared.binder.Binder.{Binder}
use Rattle.mz_logic_theory.proofs.Offered.{signature_is}
use Rattle.mz_prefix.specs.PublicPart.{renamed, all_renamed}

-- the term t of the one list of signatures is f t of the other
abbrev pub IsKept : (ℕ → ℕ) → List Signature → List Signature → ℕ → Type 0
IsKept f sigs sigs' t = (d : Signature) × (slice_get sigs t ≡ Some d) × (slice_get sigs' (f t) ≡ Some d)

-- P holds of each term in it
abbrev mutual
  pub AllTerms : (ℕ → Type 0) → Tree → Type 0
  AllTerms P (var x) = ⊤
  AllTerms P (app t es) = P t × AllTermsIn P es

  pub AllTermsIn : (ℕ → Type 0) → Trees → Type 0
  AllTermsIn P none = ⊤
  AllTermsIn P (more e es) = AllTerms P e × AllTermsIn P es

module _ (f : ℕ → ℕ) (sigs sigs' : List Signature) where
  abbrev pub Kept : Tree → Type 0
  Kept e = AllTerms (IsKept f sigs sigs') e

  abbrev pub AllKept : Trees → Type 0
  AllKept es = AllTermsIn (IsKept f sigs sigs') es

  pub same-signature : (t : ℕ) → IsKept f sigs sigs' t → signature_at sigs' (f t) ≡ signature_at sigs t
  same-signature t (d, here, there) = signature_is sigs' (f t) d there ∙ sym (signature_is sigs t d here)

  pub same-count : (es : Trees) → length (listed (all_renamed f es)) ≡ length (listed es)
  same-count none = refl
  same-count (more e es) = ap suc (same-count es)

  -- ---- range

  mutual
    pub in-range : (n : ℕ) (e : Tree) → Kept e → InRange sigs n e → InRange sigs' n (renamed f e)
    in-range n (var x) kept range = range
    in-range n (app t es) kept range =
        (slice_get_within sigs' (f t) kept.0.0 kept.0.2, same-count es ∙ range.1 ∙ ap (λ d. length d.params) (sym (same-signature t kept.0)), all-in-range n es kept.1 range.2)

    pub all-in-range : (n : ℕ) (es : Trees) → AllKept es → AllInRange sigs n es → AllInRange sigs' n (all_renamed f es)
    all-in-range n none kept range = range
    all-in-range n (more e es) kept range = (in-range n e kept.0 range.0, all-in-range n es kept.1 range.1)

  -- ---- sorts and operands

  pub same-sort : (ctx : List Binder) (e : Tree) → Kept e → sort_of sigs' ctx (renamed f e) ≡ sort_of sigs ctx e
  same-sort ctx (var x) kept = refl
  same-sort ctx (app t es) kept = ap (λ d. d.result.sort) (same-signature t kept.0)

  mutual
    pub operands-kept : (P Q : Tree → Binder → Type 0) → ((e : Tree) (p : Binder) → Kept e → P e p → Q (renamed f e) p)
        → (e : Tree) → Kept e → Operands sigs P e → Operands sigs' Q (renamed f e)
    operands-kept P Q step (var x) kept are = are
    operands-kept P Q step (app t es) kept are =
        let R : Signature → Type 0 = λ d. OperandsOf sigs' Q (all_renamed f es) d.params in
        subst R (sym (same-signature t kept.0)) (operands-of-kept P Q step es (signature_at sigs t).params kept.1 are)

    operands-of-kept : (P Q : Tree → Binder → Type 0) → ((e : Tree) (p : Binder) → Kept e → P e p → Q (renamed f e) p)
        → (es : Trees) (ps : List Binder) → AllKept es → OperandsOf sigs P es ps → OperandsOf sigs' Q (all_renamed f es) ps
    operands-of-kept P Q step (more e es) (p ∷ ps) kept are =
        (step e p kept.0 are.0, operands-kept P Q step e kept.0 are.1, operands-of-kept P Q step es ps kept.1 are.2)
    operands-of-kept P Q step _ _ kept are = are

  pub sort-fits : (ctx : List Binder) (e : Tree) (p : Binder) → Kept e → SortsFit sigs ctx e p → SortsFit sigs' ctx (renamed f e) p
  sort-fits ctx e p kept fits = same-sort ctx e kept ∙ fits

  pub bound-fits : (ctx : List Binder) (e : Tree) (p : Binder) → Kept e → BoundFit ctx e p → BoundFit ctx (renamed f e) p
  bound-fits ctx e p kept fits bound = let (x, b, is, there, bound') = fits bound in (x, b, ap (renamed f) is, there, bound')

  pub each-kept : (P Q : Tree → Type 0) → ((e : Tree) → Kept e → P e → Q (renamed f e)) → (es : Trees) → AllKept es → EachTree P es → EachTree Q (all_renamed f es)
  each-kept P Q step none kept are = are
  each-kept P Q step (more e es) kept are = (step e kept.0 are.0, each-kept P Q step es kept.1 are.1)

  -- ---- free variables

  var-back : (e : Tree) (x : ℕ) → renamed f e ≡ var x → e ≡ var x
  var-back (var y) x is = is
  var-back (app t es) x is = absurd (let P : Tree → Type 0 = λ e. elim e as (λ _. Type 0) (λ _. Type 0) [ var y ↦ ⊥ | app t es ↦ ⊤ | none ↦ ⊤ | more e es ↦ ⊤ ] in subst P is tt)

  operand-back : (es : Trees) (j x : ℕ) → operand (all_renamed f es) j ≡ var x → operand es j ≡ var x
  operand-back none j x is = is
  operand-back (more e es) zero x is = var-back e x is
  operand-back (more e es) (suc j) x is = operand-back es j x is

  operand-forth : (es : Trees) (j x : ℕ) → operand es j ≡ var x → operand (all_renamed f es) j ≡ var x
  operand-forth none j x is = is
  operand-forth (more e es) zero x is = ap (renamed f) is
  operand-forth (more e es) (suc j) x is = operand-forth es j x is

  at-back : (ps : List Binder) (es : Trees) (js : List ℕ) (x : ℕ) → IsOperandAt ps (all_renamed f es) js x → IsOperandAt ps es js x
  at-back ps es js x (j, among, bound, is) = (j, among, bound, operand-back es j x is)

  at-forth : (ps : List Binder) (es : Trees) (js : List ℕ) (x : ℕ) → IsOperandAt ps es js x → IsOperandAt ps (all_renamed f es) js x
  at-forth ps es js x (j, among, bound, is) = (j, among, bound, operand-forth es j x is)

  mutual
    pub free-back : (ctx : List Binder) (x : ℕ) (e : Tree) → Kept e → InFV sigs' ctx x (renamed f e) → InFV sigs ctx x e
    free-back ctx x (var y) kept free = free
    free-back ctx x (app t es) (kept, all) (d, there, free) =
        let same : d ≡ kept.0 = sym (signature_is sigs' (f t) d there) ∙ signature_is sigs' (f t) kept.0 kept.2 in
        let P : Signature → Type 0 = λ d. InSomeFV sigs ctx x d.params es d.params es ⊎ IsOperandAt d.params es d.result.deps x in (
          kept.0,
          kept.1,
          subst P same (elim free [
            | inl some ↦ inl (some-free-back ctx x d.params es d.params es all some)
            | inr at ↦ inr (at-back d.params es d.result.deps x at)
          ]),
        )

    some-free-back : (ctx : List Binder) (x : ℕ) (params : List Binder) (all : Trees) (ps : List Binder) (es : Trees) → AllKept es
        → InSomeFV sigs' ctx x params (all_renamed f all) ps (all_renamed f es) → InSomeFV sigs ctx x params all ps es
    some-free-back ctx x params all ps none kept free = free
    some-free-back ctx x params all [] (more e es) kept free = free
    some-free-back ctx x params all (p ∷ ps) (more e es) kept (inl (bound, free, apart)) =
        inl (bound, free-back ctx x e kept.0 free, λ at. apart (at-forth params all p.deps x at))
    some-free-back ctx x params all (p ∷ ps) (more e es) kept (inr rest) = inr (some-free-back ctx x params all ps es kept.1 rest)
