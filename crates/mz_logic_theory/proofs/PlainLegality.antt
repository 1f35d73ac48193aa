-- The eight rules are what a legal declaration is by the sorts of its expressions.
use Rattle.std.proofs.Common.{ℕ, zero, suc, ◌≡◌, ◌<◌, Bool, true, false, List, [], slice_get, get_or, length, All, Contains, Some, ◌≤◌, refl, sym, subst, arith, length-append, not-suc-le-zero}
use Rattle.std.proofs.lemmas.Option.{slice_get_within}
use Rattle.mz_logic_theory.specs.Tree.{Tree, Trees, none, more}
use Rattle.mz_logic_theory.specs.Declaration.{Declaration, term_decl, assertion_decl, dummies_of, body_of, context_of, sorts, signatures}
use Rattle.mz_logic_theory.specs.Modifiers.{MayBeResultSort, MayBeClaimSort, MayBeDummySort}
use Rattle.mz_logic_theory.specs.Sorts.{HasSort, HasProvable, AreProvable}
use Rattle.mz_logic_theory.specs.Variables.{InFV, IsBoundAt}
use Rattle.mz_logic_theory.specs.Legality.{EachTree, AllInRange, InRange, HasOperandSorts, HasBoundOperands, IsBinderThere, AreBindersThere, AreParams, IsDummy, IsClaim, IsLegalDecl, sort_of}
use Rattle.mz_logic_theory.specs.Laws.{SortsThere, LegalAssertionsAreSorted, LegalTermsAreSorted}
use Rattle.mz_logic_theory.specs.declared.binder.Binder.{Binder}
use Rattle.mz_logic_theory.specs.declared.binder.SortMods.{SortMods}
use Rattle.mz_logic_theory.proofs.Lists.{each_from_all, all_from_each}
use Rattle.mz_logic_theory.proofs.EightRules.{legal_by_rules, names_there, binders_right, no_result_pure, sorts_right, bound_right, dummy_sorts_right, deps_right}
use Rattle.mz_logic_theory.proofs.LegalIsRight.{legal_assertion_is_right}
use Rattle.mz_logic_theory.proofs.Rules.{sort_by_rules, sort_is, range_of_sort, operand_sorts_of_sort, bound_operands_of_sort}

-- ---- binders

sorts_of_binders : (ss : List SortMods) (n : ℕ) (bs : List Binder) → AreBindersThere ss n bs → SortsThere ss bs
sorts_of_binders ss n bs there k d below = (there k d below).0

all_of_none : (P : ℕ → Type 0) (js : List ℕ) → js ≡ [] → All P js
all_of_none P js is = subst (All P) (sym is) (λ k d below. absurd (not-suc-le-zero below))

-- parameters depend on places among them
params_there : (ss : List SortMods) (n : ℕ) (ps : List Binder) → length ps ≤ n → SortsThere ss ps → AreParams ss ps → AreBindersThere ss n ps
params_there ss n ps enough sorts_there right = all_from_each (IsBinderThere ss n) ps each
  where
    each : (i : ℕ) (b : Binder) → slice_get ps i ≡ Some b → IsBinderThere ss n b
    each i b at = (each_from_all (λ b. b.sort < length ss) ps sorts_there i b at, go b.bound refl)
      where
        in_list : i < length ps
        in_list = slice_get_within ps i b at

        go : (v : Bool) → b.bound ≡ v → All (λ j. j < n) b.deps
        go true bd = all_of_none (λ j. j < n) b.deps ((right i b at).0 bd).0
        go false reg = λ k d below. (let here : get_or b.deps k d < i = ((right i b at).1 reg k d below).0 in let within : i < length ps = in_list in omega (arith, enough, here, within))

dummies_there : (ss : List SortMods) (n : ℕ) (bs : List Binder) → All (λ b. IsDummy b × MayBeDummySort ss b.sort) bs → AreBindersThere ss n bs
dummies_there ss n bs all k d below =
    let h = all k d below in
    (slice_get_within ss (get_or bs k d).sort h.1.0 h.1.1, all_of_none (λ j. j < n) (get_or bs k d).deps h.0.1)

bound_at_there : (ps : List Binder) (n : ℕ) → length ps ≤ n → (js : List ℕ) → All (IsBoundAt ps) js → All (λ j. j < n) js
bound_at_there ps n enough js all k d below =
    let h = all k d below in
    let here : get_or js k d < length ps = slice_get_within ps (get_or js k d) h.0 h.1 in
    omega arith

-- ---- claims

claim_back : (env : List Declaration) (ctx : List Binder) (e : Tree) → HasProvable env ctx e
    → InRange (signatures env) (length ctx) e × HasOperandSorts (signatures env) ctx e × HasBoundOperands (signatures env) ctx e × IsClaim env ctx e
claim_back env ctx e (s, h, provable) = (
  range_of_sort (signatures env) ctx e s h,
  operand_sorts_of_sort (signatures env) ctx e s h,
  bound_operands_of_sort (signatures env) ctx e s h,
  subst (MayBeClaimSort (sorts env)) (sym (sort_is (signatures env) ctx e s h)) provable,
)

claims_back : (env : List Declaration) (ctx : List Binder) (es : Trees) → AreProvable env ctx es
    → AllInRange (signatures env) (length ctx) es × EachTree (HasOperandSorts (signatures env) ctx) es
    × EachTree (HasBoundOperands (signatures env) ctx) es × EachTree (IsClaim env ctx) es
claims_back env ctx none h = (tt, tt, tt, tt)
claims_back env ctx (more e es) h =
    let here = claim_back env ctx e (h zero e refl) in
    let rest = claims_back env ctx es (λ i d at. h (suc i) d at) in
    ((here.0, rest.0), (here.1, rest.1), (here.2, rest.2), (here.3, rest.3))

pub assertions_are_sorted : LegalAssertionsAreSorted
assertions_are_sorted env a = (to, from)
  where
    to : IsLegalDecl env (assertion_decl a) → SortsThere (sorts env) a.params × AreParams (sorts env) a.params × AreProvable env a.params a.hyps × HasProvable env a.params a.conclusion
    to legal =
        let right = legal_assertion_is_right env a legal in (
          sorts_of_binders (sorts env) (length a.params) a.params (names_there env (assertion_decl a) legal).0,
          binders_right env (assertion_decl a) legal,
          right.1,
          right.2,
        )

    from : SortsThere (sorts env) a.params × AreParams (sorts env) a.params × AreProvable env a.params a.hyps × HasProvable env a.params a.conclusion → IsLegalDecl env (assertion_decl a)
    from (there, params, hyps, conclusion) =
        let hs = claims_back env a.params a.hyps hyps in
        let k = claim_back env a.params a.conclusion conclusion in
        let itself : length a.params ≤ length a.params = omega arith in
        legal_by_rules env (assertion_decl a) (params_there (sorts env) (length a.params) a.params itself there params, hs.0, k.0) params tt (hs.1, k.1) (hs.2, k.2) (hs.3, k.3) tt tt

-- ---- bodies

bodies_to : (env : List Declaration) (ctx : List Binder) (s : ℕ) (P : Tree → Type 0) (es : Trees) → AllInRange (signatures env) (length ctx) es
    → EachTree (HasOperandSorts (signatures env) ctx) es → EachTree (λ e. sort_of (signatures env) ctx e ≡ s) es
    → EachTree (HasBoundOperands (signatures env) ctx) es → EachTree P es → EachTree (λ e. HasSort (signatures env) ctx e s × P e) es
bodies_to env ctx s P none h k m l p = tt
bodies_to env ctx s P (more e es) (h, hs) (k, ks) (m, ms) (l, ls) (p, ps) =
    ((subst (HasSort (signatures env) ctx e) m (sort_by_rules (signatures env) ctx e h k l), p), bodies_to env ctx s P es hs ks ms ls ps)

bodies_back : (env : List Declaration) (ctx : List Binder) (s : ℕ) (P : Tree → Type 0) (es : Trees) → EachTree (λ e. HasSort (signatures env) ctx e s × P e) es
    → AllInRange (signatures env) (length ctx) es × EachTree (HasOperandSorts (signatures env) ctx) es
    × EachTree (λ e. sort_of (signatures env) ctx e ≡ s) es × EachTree (HasBoundOperands (signatures env) ctx) es × EachTree P es
bodies_back env ctx s P none h = (tt, tt, tt, tt, tt)
bodies_back env ctx s P (more e es) ((h, p), rest) =
    let r = bodies_back env ctx s P es rest in (
      (range_of_sort (signatures env) ctx e s h, r.0),
      (operand_sorts_of_sort (signatures env) ctx e s h, r.1),
      (sort_is (signatures env) ctx e s h, r.2),
      (bound_operands_of_sort (signatures env) ctx e s h, r.3),
      (p, r.4),
    )

pub terms_are_sorted : LegalTermsAreSorted
terms_are_sorted env d = (to, from)
  where
    to : IsLegalDecl env (term_decl d)
        → SortsThere (sorts env) d.signature.params × AreParams (sorts env) d.signature.params
        × All (λ b. IsDummy b × MayBeDummySort (sorts env) b.sort) (dummies_of d.form)
        × MayBeResultSort (sorts env) d.signature.result.sort
        × All (IsBoundAt d.signature.params) d.signature.result.deps
        × EachTree (λ e. HasSort (signatures env) (context_of d) e d.signature.result.sort
        × ((x : ℕ) → InFV (signatures env) (context_of d) x e → Contains d.signature.result.deps x)) (body_of d.form)
    to legal = (
      sorts_of_binders (sorts env) (length (context_of d)) d.signature.params (names_there env (term_decl d) legal).0,
      (binders_right env (term_decl d) legal).0,
      λ k c below. ((binders_right env (term_decl d) legal).1 k c below, dummy_sorts_right env (term_decl d) legal k c below),
      no_result_pure env (term_decl d) legal,
      (binders_right env (term_decl d) legal).2,
      bodies_to env (context_of d) d.signature.result.sort (λ e. (x : ℕ) → InFV (signatures env) (context_of d) x e → Contains d.signature.result.deps x) (body_of d.form)
          (names_there env (term_decl d) legal).4 (sorts_right env (term_decl d) legal).0 (sorts_right env (term_decl d) legal).1 (bound_right env (term_decl d) legal)
          (deps_right env (term_decl d) legal),
    )

    from : SortsThere (sorts env) d.signature.params × AreParams (sorts env) d.signature.params
        × All (λ b. IsDummy b × MayBeDummySort (sorts env) b.sort) (dummies_of d.form)
        × MayBeResultSort (sorts env) d.signature.result.sort
        × All (IsBoundAt d.signature.params) d.signature.result.deps
        × EachTree (λ e. HasSort (signatures env) (context_of d) e d.signature.result.sort
        × ((x : ℕ) → InFV (signatures env) (context_of d) x e → Contains d.signature.result.deps x)) (body_of d.form)
        → IsLegalDecl env (term_decl d)
    from (there, params, dummies, result, deps, bodies) =
        let r = bodies_back env (context_of d) d.signature.result.sort (λ e. (x : ℕ) → InFV (signatures env) (context_of d) x e → Contains d.signature.result.deps x) (body_of d.form) bodies in
        let enough : length d.signature.params ≤ length (context_of d) = omega (arith, length-append d.signature.params (dummies_of d.form)) in
        legal_by_rules env (term_decl d) (
          params_there (sorts env) (length (context_of d)) d.signature.params enough there params,
          dummies_there (sorts env) (length (context_of d)) (dummies_of d.form) dummies,
          slice_get_within (sorts env) d.signature.result.sort result.0 result.1,
          bound_at_there d.signature.params (length (context_of d)) enough d.signature.result.deps deps,
          r.0,
        ) (params, (λ k c below. (dummies k c below).0), deps) result (r.1, r.2) r.3 tt (λ k c below. (dummies k c below).1) r.4
