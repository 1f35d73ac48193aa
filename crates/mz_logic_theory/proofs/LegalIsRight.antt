-- A legal environment has what derivations rest on: bodies of their result's sort, and provable claims.
use Rattle.std.proofs.Common.{ℕ, zero, suc, ◌≡◌, List, [], ◌∷◌, ◌++◌, slice_get, length, Some, refl, sym, subst, inl, inr, append_assoc, append-nil, All}
use Rattle.std.proofs.lemmas.Option.{none-some}
use Rattle.mz_base.proofs.Offered.{slice_get-append_cases}
use Rattle.mz_logic_theory.specs.Tree.{Tree, Trees, none, more}
use Rattle.mz_logic_theory.specs.Declaration.{Term, Assertion, Declaration, sort_decl, term_decl, assertion_decl, sorts, terms, signatures, assertions, dummies_of, body_of}
use Rattle.mz_logic_theory.specs.Modifiers.{MayBeClaimSort}
use Rattle.mz_logic_theory.specs.Sorts.{HasSort, HasProvable, AreProvable}
use Rattle.mz_logic_theory.specs.Legality.{sort_of, EachTree, IsDummy, IsLegalDecl, LegalEnvAfter, IsLegalEnv, AllInRange, HasOperandSorts, HasBoundOperands, IsClaim}
use Rattle.mz_logic_theory.proofs.Lists.{each_from_all}
use Rattle.mz_logic_theory.proofs.EightRules.{names_there, binders_right, sorts_right, bound_right, claims_provable}
use Rattle.mz_logic_theory.specs.declared.binder.Binder.{Binder}
use Rattle.mz_logic_theory.proofs.Instance.{one_at}
use Rattle.mz_logic_theory.proofs.Extend.{EnvExtends, env_extends_append, extends_itself, sort_extends, terms-append, assertions-append}
use Rattle.mz_logic_theory.proofs.Rules.{sort_by_rules}
use Rattle.mz_logic_theory.proofs.Sound.{TermRight, AssertionRight, RightEnv}

-- ---- what is right stays so in a longer environment

pub claim_sort_extends : (env env' : List Declaration) → EnvExtends env env' → (s : ℕ) → MayBeClaimSort (sorts env) s → MayBeClaimSort (sorts env') s
claim_sort_extends env env' m s (mods, at, provable) = (mods, m.sorts_too s mods at, provable)

pub has_provable_extends : (env env' : List Declaration) → EnvExtends env env' → (ctx : List Binder) (e : Tree) → HasProvable env ctx e → HasProvable env' ctx e
has_provable_extends env env' m ctx e (s, h, p) =
    (s, sort_extends (signatures env) (signatures env') ctx ctx m.signatures_too (extends_itself ctx) e s h, claim_sort_extends env env' m s p)

pub term_right_extends : (env env' : List Declaration) → EnvExtends env env' → (d : Term) → TermRight env d → TermRight env' d
term_right_extends env env' m d right dummies body form =
    let r = right dummies body form in
    (sort_extends (signatures env) (signatures env') _ _ m.signatures_too (extends_itself _) body _ r.0, r.1)

pub assertion_right_extends : (env env' : List Declaration) → EnvExtends env env' → (a : Assertion) → AssertionRight env a → AssertionRight env' a
assertion_right_extends env env' m a (no_deps, hyps, conclusion) =
    (no_deps, λ i e at. has_provable_extends env env' m a.params e (hyps i e at), has_provable_extends env env' m a.params a.conclusion conclusion)

-- ---- a legal declaration is right

pub legal_term_is_right : (env : List Declaration) (d : Term) → IsLegalDecl env (term_decl d) → TermRight env d
legal_term_is_right env d legal dummies body form = (
  subst (HasSort (signatures env) (d.signature.params ++ dummies) body) is_result.0
      (sort_by_rules (signatures env) (d.signature.params ++ dummies) body in_range.0 sorts_fit.0 bounds_fit.0),
  each_from_all IsDummy dummies (subst (λ f. All IsDummy (dummies_of f)) form (binders_right env (term_decl d) legal).1),
)
  where
    in_range : AllInRange (signatures env) (length (d.signature.params ++ dummies)) (more body none)
    in_range = subst (λ f. AllInRange (signatures env) (length (d.signature.params ++ dummies_of f)) (body_of f)) form (names_there env (term_decl d) legal).4

    sorts_fit : EachTree (HasOperandSorts (signatures env) (d.signature.params ++ dummies)) (more body none)
    sorts_fit = subst (λ f. EachTree (HasOperandSorts (signatures env) (d.signature.params ++ dummies_of f)) (body_of f)) form (sorts_right env (term_decl d) legal).0

    is_result : EachTree (λ e. sort_of (signatures env) (d.signature.params ++ dummies) e ≡ d.signature.result.sort) (more body none)
    is_result = subst (λ f. EachTree (λ e. sort_of (signatures env) (d.signature.params ++ dummies_of f) e ≡ d.signature.result.sort) (body_of f)) form (sorts_right env (term_decl d) legal).1

    bounds_fit : EachTree (HasBoundOperands (signatures env) (d.signature.params ++ dummies)) (more body none)
    bounds_fit = subst (λ f. EachTree (HasBoundOperands (signatures env) (d.signature.params ++ dummies_of f)) (body_of f)) form (bound_right env (term_decl d) legal)

claims_right : (env : List Declaration) (ctx : List Binder) (es : Trees) → AllInRange (signatures env) (length ctx) es
    → EachTree (HasOperandSorts (signatures env) ctx) es → EachTree (HasBoundOperands (signatures env) ctx) es → EachTree (IsClaim env ctx) es → AreProvable env ctx es
claims_right env ctx none h k l m i e at = absurd (none-some _ at)
claims_right env ctx (more c es) (h, hs) (k, ks) (l, ls) (m, ms) zero e at =
    subst (HasProvable env ctx) (one_at refl at) (sort_of (signatures env) ctx c, sort_by_rules (signatures env) ctx c h k l, m)
claims_right env ctx (more c es) (h, hs) (k, ks) (l, ls) (m, ms) (suc i) e at = claims_right env ctx es hs ks ls ms i e at

pub legal_assertion_is_right : (env : List Declaration) (a : Assertion) → IsLegalDecl env (assertion_decl a) → AssertionRight env a
legal_assertion_is_right env a legal = (
  λ i b at is_bound. (((binders_right env (assertion_decl a) legal) i b at).0 is_bound).0,
  claims_right env a.params a.hyps (names_there env (assertion_decl a) legal).1 (sorts_right env (assertion_decl a) legal).0 (bound_right env (assertion_decl a) legal).0 (claims_provable env (assertion_decl a) legal).0,
  (
    sort_of (signatures env) a.params a.conclusion,
    sort_by_rules (signatures env) a.params a.conclusion (names_there env (assertion_decl a) legal).2 (sorts_right env (assertion_decl a) legal).1 (bound_right env (assertion_decl a) legal).1,
    (claims_provable env (assertion_decl a) legal).1,
  ),
)

-- ---- environments

pub right_step : (env : List Declaration) (d : Declaration) → RightEnv env → IsLegalDecl env d → RightEnv (env ++ d ∷ [])
right_step env d right legal = record { terms_right = terms_go; assertions_right = assertions_go }
  where
    m : EnvExtends env (env ++ d ∷ [])
    m = env_extends_append env (d ∷ [])

    new_term : (d' : Declaration) → IsLegalDecl env d' → (j : ℕ) (c : Term) → slice_get (terms (d' ∷ [])) j ≡ Some c → TermRight env c
    new_term (sort_decl _) l j c at = absurd (none-some _ at)
    new_term (assertion_decl _) l j c at = absurd (none-some _ at)
    new_term (term_decl c') l zero c at = subst (TermRight env) (one_at refl at) (legal_term_is_right env c' l)
    new_term (term_decl c') l (suc j) c at = absurd (none-some _ at)

    new_assertion : (d' : Declaration) → IsLegalDecl env d' → (j : ℕ) (a : Assertion) → slice_get (assertions (d' ∷ [])) j ≡ Some a → AssertionRight env a
    new_assertion (sort_decl _) l j a at = absurd (none-some _ at)
    new_assertion (term_decl _) l j a at = absurd (none-some _ at)
    new_assertion (assertion_decl a') l zero a at = subst (AssertionRight env) (one_at refl at) (legal_assertion_is_right env a' l)
    new_assertion (assertion_decl a') l (suc j) a at = absurd (none-some _ at)

    terms_go : (t : ℕ) (c : Term) → slice_get (terms (env ++ d ∷ [])) t ≡ Some c → TermRight (env ++ d ∷ []) c
    terms_go t c at = elim (slice_get-append_cases (terms env) (terms (d ∷ [])) t c (subst (λ xs. slice_get xs t ≡ Some c) (terms-append env (d ∷ [])) at)) [
      | inl old ↦ term_right_extends env (env ++ d ∷ []) m c (right.terms_right t c old)
      | inr new ↦ term_right_extends env (env ++ d ∷ []) m c (new_term d legal new.0 c new.1)
    ]

    assertions_go : (t : ℕ) (a : Assertion) → slice_get (assertions (env ++ d ∷ [])) t ≡ Some a → AssertionRight (env ++ d ∷ []) a
    assertions_go t a at = elim (slice_get-append_cases (assertions env) (assertions (d ∷ [])) t a (subst (λ xs. slice_get xs t ≡ Some a) (assertions-append env (d ∷ [])) at)) [
      | inl old ↦ assertion_right_extends env (env ++ d ∷ []) m a (right.assertions_right t a old)
      | inr new ↦ assertion_right_extends env (env ++ d ∷ []) m a (new_assertion d legal new.0 a new.1)
    ]

pub right_after : (env ds : List Declaration) → RightEnv env → LegalEnvAfter env ds → RightEnv (env ++ ds)
right_after env [] right h = subst RightEnv (sym (append-nil env)) right
right_after env (d ∷ ds) right (h, rest) = subst RightEnv (append_assoc env (d ∷ []) ds) (right_after (env ++ d ∷ []) ds (right_step env d right h) rest)

pub legal_env_is_right : (env : List Declaration) → IsLegalEnv env → RightEnv env
legal_env_is_right env h = right_after [] env (record { terms_right = λ t d at. absurd (none-some _ at); assertions_right = λ t a at. absurd (none-some _ at) }) h

-- a legal environment with a legal declaration more is one
pub legal_after_push : (env ds : List Declaration) (d : Declaration) → LegalEnvAfter env ds → IsLegalDecl (env ++ ds) d → LegalEnvAfter env (ds ++ d ∷ [])
legal_after_push env [] d h legal = (subst (λ e. IsLegalDecl e d) (append-nil env) legal, tt)
legal_after_push env (c ∷ ds) d (h, rest) legal = (h, legal_after_push (env ++ c ∷ []) ds d rest (subst (λ e. IsLegalDecl e d) (sym (append_assoc env (c ∷ []) ds)) legal))

pub legal_push : (ds : List Declaration) (d : Declaration) → IsLegalEnv ds → IsLegalDecl ds d → IsLegalEnv (ds ++ d ∷ [])
legal_push ds d h legal = legal_after_push [] ds d h legal
