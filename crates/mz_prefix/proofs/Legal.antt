-- The public part of a legal list is legal.
use Rattle.std.proofs.Common.{◌≡◌, ◌<◌, ◌∙◌, ◌++◌, ◌+◌, ℕ, List, [], ◌∷◌, length, Bool, true, false, ap, sym, refl, subst, inl, inr, arith, get_or, append-nil, append_assoc, length-append}
use Rattle.std.specs.Prelude.{All, if◌then◌else◌}
use Rattle.std.proofs.Math.Seq.{get_or-append_seam}
use Rattle.std.proofs.lemmas.Bool.{cases_Bool}
use Rattle.std.proofs.lemmas.Option.{slice_get_within, slice_get-get_or}
use Rattle.mz_logic_theory.specs.Tree.{Tree}
use Rattle.mz_logic_theory.specs.Signature.{Signature}
use Rattle.mz_logic_theory.specs.Declaration.{Form, plain_form, abstract_form, defined, Term, Assertion, Declaration, sort_decl, term_decl, assertion_decl, sorts, signatures}
use Rattle.mz_logic_theory.specs.Modifiers.{MayBeResultSort, MayBeDummySort, MayBeClaimSort}
use Rattle.mz_logic_theory.specs.Variables.{IsBoundAt}
use Rattle.mz_logic_theory.specs.Legality.{AreBindersThere, AreParams, IsParam, IsClaim, NamesThere, BindersRight, NoResultPure, SortsRight, BoundRight, ClaimsProvable, DummySortsRight, DepsRight, IsLegalDecl, LegalEnvAfter, HasOperandSorts, HasBoundOperands, SortsFit, BoundFit, sort_of}
use Rattle.mz_logic_theory.specs.LegalLists.{Statement, LegalAfter, MayBeLocal, gap_free}
use Rattle.mz_logic_theory.specs.declared.binder.Binder.{Binder}
use Rattle.mz_logic_theory.specs.declared.binder.SortMods.{SortMods}
use Rattle.mz_logic_theory.proofs.Offered.{signatures-append, same-signatures}
use Rattle.mz_prefix.specs.PublicPart.{public_number, is_local_term, visibility_of, visibilities_of, renamed, mentions_local, shown, renamed_assertion, public_decl, public_decls, Hides, IsSayable, AreSayable}
use Rattle.mz_prefix.specs.PublicLaws.{PublicPartsAreLegal}
use Rattle.mz_prefix.proofs.Renaming.{Kept, in-range, all-in-range, same-sort, operands-kept, sort-fits, bound-fits, each-kept, free-back}
use Rattle.mz_prefix.proofs.Beside.{AreBeside, none-beside, with-sort, with-assertion, with-local_assertion, with-term, with-local_term, none-mentioned, none-mentioned-in}

pub pick : {A : Type 0} (P : A → Type 0) (b : Bool) (x y : A) → (b ≡ true → P x) → (b ≡ false → P y) → P (if b then x else y)
pick P true x y yes_ no_ = yes_ refl
pick P false x y yes_ no_ = no_ refl

pub bound-there : (ps : List Binder) (j : ℕ) → IsBoundAt ps j → j < length ps
bound-there ps j (b, at, bound) = slice_get_within ps j b at

-- what parameters depend on are parameters
deps-there : (ss : List SortMods) (ps : List Binder) (i : ℕ) (b : Binder) → IsParam ss ps i b → All (λ j. j < length ps) b.deps
deps-there ss ps i b (bound, regular) =
    elim (cases_Bool b.bound) [
      | inl is ↦ (let P : List ℕ → Type 0 = λ js. All (λ j. j < length ps) js in subst P (sym (bound is).0) (λ k d less. absurd (omega arith)))
      | inr is ↦ (λ k d less. bound-there ps (get_or b.deps k d) (regular is k d less).1)
    ]

pub params-there : (ss : List SortMods) (n : ℕ) (ps : List Binder) → AreBindersThere ss n ps → AreParams ss ps → AreBindersThere ss (length ps) ps
params-there ss n ps there are k d less = ((there k d less).0, deps-there ss ps k (get_or ps k d) (are k (get_or ps k d) (slice_get-get_or ps k d less)))

module _ (ls : List Bool) (hidden : Tree → Bool) (hides : Hides ls hidden) (env env' : List Declaration) (beside : AreBeside ls env env') where
  abbrev f : ℕ → ℕ
  f = public_number ls

  -- what holds over the sorts holds over the same sorts
  over : (P : List SortMods → Type 0) → P (sorts env) → P (sorts env')
  over P holds = subst P (sym beside.same) holds

  sorts-kept : (ctx : List Binder) (e : Tree) → Kept f (signatures env) (signatures env') e → HasOperandSorts (signatures env) ctx e → HasOperandSorts (signatures env') ctx (renamed f e)
  sorts-kept ctx = operands-kept f (signatures env) (signatures env') (SortsFit (signatures env) ctx) (SortsFit (signatures env') ctx) (sort-fits f (signatures env) (signatures env') ctx)

  bounds-kept : (ctx : List Binder) (e : Tree) → Kept f (signatures env) (signatures env') e → HasBoundOperands (signatures env) ctx e → HasBoundOperands (signatures env') ctx (renamed f e)
  bounds-kept ctx = operands-kept f (signatures env) (signatures env') (BoundFit ctx) (BoundFit ctx) (bound-fits f (signatures env) (signatures env') ctx)

  claim-kept : (ctx : List Binder) (e : Tree) → Kept f (signatures env) (signatures env') e → IsClaim env ctx e → IsClaim env' ctx (renamed f e)
  claim-kept ctx e kept is =
      let P : ℕ → Type 0 = λ s. MayBeClaimSort (sorts env') s in
      subst P (sym (same-sort f (signatures env) (signatures env') ctx e kept)) (over (λ ss. MayBeClaimSort ss (sort_of (signatures env) ctx e)) is)

  -- the eight rules, as a legal declaration has them
  eight : (over' : List Declaration) (d : Declaration) → NamesThere over' d → BindersRight over' d → NoResultPure over' d → SortsRight over' d → BoundRight over' d → ClaimsProvable over' d → DummySortsRight over' d → DepsRight over' d
      → IsLegalDecl over' d
  eight over' d a b c e g h i j = (a, (b, (c, (e, (g, (h, (i, (j, tt))))))))

  -- ---- terms

  plain-legal : (sig : Signature) → IsLegalDecl env (term_decl (record { signature = sig; form = plain_form })) → IsLegalDecl env' (term_decl (record { signature = sig; form = plain_form }))
  plain-legal sig (names, (binders, (pure, (_, (_, (_, (_, (_, _)))))))) =
      eight env' (term_decl (record { signature = sig; form = plain_form })) (
        over (λ ss. AreBindersThere ss (length (sig.params ++ [])) sig.params) names.0,
        over (λ ss. AreBindersThere ss (length (sig.params ++ [])) []) names.1,
        over (λ ss. sig.result.sort < length ss) names.2,
        names.3,
        tt,
      )
      (over (λ ss. AreParams ss sig.params) binders.0, binders.1, binders.2)
      (over (λ ss. MayBeResultSort ss sig.result.sort) pure)
      (tt, tt) tt tt (λ k d less. absurd (omega arith)) tt

  abstract-legal : (sig : Signature) → IsLegalDecl env (term_decl (record { signature = sig; form = abstract_form })) → IsLegalDecl env' (term_decl (record { signature = sig; form = abstract_form }))
  abstract-legal sig legal = plain-legal sig legal

  -- without its body and dummies
  bodiless-legal : (sig : Signature) (ds : List Binder) (body : Tree) → IsLegalDecl env (term_decl (record { signature = sig; form = defined ds body }))
      → IsLegalDecl env (term_decl (record { signature = sig; form = abstract_form }))
  bodiless-legal sig ds body (names, (binders, (pure, (_, (_, (_, (_, (_, _)))))))) =
      eight env (term_decl (record { signature = sig; form = abstract_form })) (
        along (λ n. AreBindersThere (sorts env) n sig.params) (params-there (sorts env) (length (sig.params ++ ds)) sig.params names.0 binders.0),
        (λ k d less. absurd (omega arith)),
        names.2,
        along (λ n. All (λ j. j < n) sig.result.deps) (λ k d less. bound-there sig.params _ (binders.2 k d less)),
        tt,
      )
      (binders.0, (λ k d less. absurd (omega arith)), binders.2)
      pure (tt, tt) tt tt (λ k d less. absurd (omega arith)) tt
    where
      along : (P : ℕ → Type 0) → P (length sig.params) → P (length (sig.params ++ []))
      along P is = let same : length sig.params ≡ length (sig.params ++ []) = ap length (sym (append-nil sig.params)) in subst P same is

  defined-legal : (sig : Signature) (ds : List Binder) (body : Tree) → mentions_local ls body ≡ false → IsLegalDecl env (term_decl (record { signature = sig; form = defined ds body }))
      → IsLegalDecl env' (term_decl (record { signature = sig; form = defined ds (renamed f body) }))
  defined-legal sig ds body public (names, (binders, (pure, (are, (bounds, (_, (dummies, (free, _)))))))) =
      let ctx : List Binder = sig.params ++ ds in
      let kept = none-mentioned ls env env' beside (length ctx) body public names.4.0 in
      eight env' (term_decl (record { signature = sig; form = defined ds (renamed f body) })) (
        over (λ ss. AreBindersThere ss (length ctx) sig.params) names.0,
        over (λ ss. AreBindersThere ss (length ctx) ds) names.1,
        over (λ ss. sig.result.sort < length ss) names.2,
        names.3,
        (in-range f (signatures env) (signatures env') (length ctx) body kept names.4.0, tt),
      )
      (over (λ ss. AreParams ss sig.params) binders.0, binders.1, binders.2)
      (over (λ ss. MayBeResultSort ss sig.result.sort) pure)
      ((sorts-kept ctx body kept are.0.0, tt), (same-sort f (signatures env) (signatures env') ctx body kept ∙ are.1.0, tt))
      (bounds-kept ctx body kept bounds.0, tt)
      tt
      (over (λ ss. All (λ b. MayBeDummySort ss b.sort) ds) dummies)
      ((λ x is. free.0 x (free-back f (signatures env) (signatures env') ctx x body kept is)), tt)

  term-legal : (sig : Signature) (form : Form) → IsLegalDecl env (term_decl (record { signature = sig; form = form })) → IsLegalDecl env' (term_decl (record { signature = sig; form = shown hidden f form }))
  term-legal sig plain_form legal = plain-legal sig legal
  term-legal sig abstract_form legal = abstract-legal sig legal
  term-legal sig (defined ds body) legal =
      pick (λ form. IsLegalDecl env' (term_decl (record { signature = sig; form = form }))) (hidden body) abstract_form (defined ds (renamed f body))
      (λ _. abstract-legal sig (bodiless-legal sig ds body legal)) (λ is. defined-legal sig ds body (hides body is) legal)

  -- ---- assertions

  assertion-legal : (a : Assertion) → IsSayable ls (assertion_decl a) → IsLegalDecl env (assertion_decl a) → IsLegalDecl env' (assertion_decl (renamed_assertion f a))
  assertion-legal a (hyps, conclusion) (names, (binders, (_, (are, (bounds, (claims, (_, (_, _)))))))) =
      let all = none-mentioned-in ls env env' beside (length a.params) a.hyps hyps names.1 in
      let kept = none-mentioned ls env env' beside (length a.params) a.conclusion conclusion names.2 in
      eight env' (assertion_decl (renamed_assertion f a))
      (over (λ ss. AreBindersThere ss (length a.params) a.params) names.0, all-in-range f (signatures env) (signatures env') (length a.params) a.hyps all names.1, in-range f (signatures env) (signatures env') (length a.params) a.conclusion kept names.2)
      (over (λ ss. AreParams ss a.params) binders)
      tt
      (each-kept f (signatures env) (signatures env') (HasOperandSorts (signatures env) a.params) (HasOperandSorts (signatures env') a.params) (sorts-kept a.params) a.hyps all are.0, sorts-kept a.params a.conclusion kept are.1)
      (each-kept f (signatures env) (signatures env') (HasBoundOperands (signatures env) a.params) (HasBoundOperands (signatures env') a.params) (bounds-kept a.params) a.hyps all bounds.0, bounds-kept a.params a.conclusion kept bounds.1)
      (each-kept f (signatures env) (signatures env') (IsClaim env a.params) (IsClaim env' a.params) (claim-kept a.params) a.hyps all claims.0, claim-kept a.params a.conclusion kept claims.1)
      tt tt

  pub decl-legal : (d : Declaration) → IsSayable ls d → IsLegalDecl env d → IsLegalDecl env' (public_decl hidden f d)
  decl-legal (sort_decl m) sayable legal = legal
  decl-legal (term_decl d) sayable legal = term-legal d.signature d.form legal
  decl-legal (assertion_decl a) sayable legal = assertion-legal a sayable legal

-- ---- all statements

-- where the visibilities of the statements left begin
pub record IsAt (ls : List Bool) (env : List Declaration) (ss : List Statement) : Type 0 where
  pub before : List Bool
  pub all : ls ≡ before ++ visibilities_of ss
  pub place : length before ≡ length (signatures env)

pub mark-at : (ls : List Bool) (env : List Declaration) (l : Bool) (d : Term) (ss : List Statement) → IsAt ls env (record { is_local = l; decl = term_decl d } ∷ ss)
    → (length (signatures env) < length ls) × (is_local_term ls (length (signatures env)) ≡ l)
mark-at ls env l d ss at =
    let all : ls ≡ at.before ++ l ∷ visibilities_of ss = at.all in
    let place = at.place in
    (omega (arith, ap length all, length-append at.before (l ∷ visibilities_of ss)), ap (λ xs. get_or xs (length (signatures env)) false) all ∙ ap (λ i. get_or (at.before ++ l ∷ visibilities_of ss) i false) (sym place) ∙ get_or-append_seam at.before l (visibilities_of ss) false)

pub at-next : (ls : List Bool) (env : List Declaration) (s : Statement) (ss : List Statement) → IsAt ls env (s ∷ ss) → IsAt ls (env ++ s.decl ∷ []) ss
at-next ls env s ss at = record {
  before = at.before ++ visibility_of s.is_local s.decl;
  all = at.all ∙ sym (append_assoc at.before (visibility_of s.is_local s.decl) (visibilities_of ss));
  place = length-append at.before (visibility_of s.is_local s.decl) ∙ place-next env s.is_local s.decl (length at.before) at.place;
}
  where
    place-next : (env : List Declaration) (l : Bool) (d : Declaration) (n : ℕ) → n ≡ length (signatures env) → n + length (visibility_of l d) ≡ length (signatures (env ++ d ∷ []))
    place-next env l (sort_decl m) n place = omega (arith, place, ap length (same-signatures env (sort_decl m) refl))
    place-next env l (term_decl d) n place = omega (arith, place, ap length (signatures-append env (term_decl d ∷ [])), length-append (signatures env) (d.signature ∷ []))
    place-next env l (assertion_decl a) n place = omega (arith, place, ap length (same-signatures env (assertion_decl a) refl))

pub at-known : (ls : List Bool) (env : List Declaration) (s : Statement) (ss : List Statement) (l : Bool) → s.is_local ≡ l → IsAt ls env (s ∷ ss) → IsAt ls env (record { is_local = l; decl = s.decl } ∷ ss)
at-known ls env s ss l is at = record { before = at.before; all = at.all ∙ ap (λ b. at.before ++ (visibility_of b s.decl ++ visibilities_of ss)) is; place = at.place }

module _ (ls : List Bool) (hidden : Tree → Bool) where
  pub public-next : (env env' : List Declaration) (d : Declaration) (ss : List Statement) → IsAt ls env (record { is_local = false; decl = d } ∷ ss) → AreBeside ls env env'
      → AreBeside ls (env ++ d ∷ []) (env' ++ public_decl hidden (public_number ls) d ∷ [])
  public-next env env' (sort_decl m) ss at beside = with-sort ls env env' m beside
  public-next env env' (term_decl d) ss at beside = let there = mark-at ls env false d ss at in with-term ls env env' d _ refl there.0 there.1 beside
  public-next env env' (assertion_decl a) ss at beside = with-assertion ls env env' a (renamed_assertion (public_number ls) a) beside

  pub local-next : (env env' : List Declaration) (d : Declaration) (ss : List Statement) → MayBeLocal d → IsAt ls env (record { is_local = true; decl = d } ∷ ss) → AreBeside ls env env'
      → AreBeside ls (env ++ d ∷ []) env'
  local-next env env' (sort_decl m) ss may at beside = absurd may
  local-next env env' (term_decl d) ss may at beside = let there = mark-at ls env true d ss at in with-local_term ls env env' d there.0 there.1 beside
  local-next env env' (assertion_decl a) ss may at beside = with-local_assertion ls env env' a beside

  legal-after : Hides ls hidden → (ss : List Statement) (env env' : List Declaration) → IsAt ls env ss → AreBeside ls env env' → AreSayable ls ss → LegalAfter gap_free env ss
      → LegalEnvAfter env' (public_decls hidden (public_number ls) ss)
  legal-after hides [] env env' at beside sayable legal = tt
  legal-after hides (s ∷ ss) env env' at beside sayable legal =
      pick (LegalEnvAfter env') s.is_local (public_decls hidden (public_number ls) ss) (public_decl hidden (public_number ls) s.decl ∷ public_decls hidden (public_number ls) ss)
      (λ local. legal-after hides ss (env ++ s.decl ∷ []) env' (at-next ls env s ss at) (local-next env env' s.decl ss (legal.0.1 local) (at-known ls env s ss true local at) beside) sayable.1 legal.1)
      (λ public. (
        decl-legal ls hidden hides env env' beside s.decl (sayable.0 public) legal.0.0,
        legal-after hides ss (env ++ s.decl ∷ []) (env' ++ public_decl hidden (public_number ls) s.decl ∷ []) (at-next ls env s ss at) (public-next env env' s.decl ss (at-known ls env s ss false public at) beside) sayable.1 legal.1,
      ))

pub public-parts-legal : PublicPartsAreLegal
public-parts-legal ss hidden legal hides sayable =
    legal-after (visibilities_of ss) hidden hides ss [] [] (record { before = []; all = refl; place = refl }) (none-beside (visibilities_of ss)) sayable legal
