-- Lemmas are inlined: where what is cited rests on some assertions, there is one that cites those alone. So each theorem of
-- a legal list has a derivation over the axioms of its support, and one from axioms alone.
use Rattle.std.proofs.Common.{ℕ, zero, suc, ◌≡◌, ◌<◌, ◌+◌, Bool, true, false, List, [], ◌∷◌, ◌++◌, slice_get, Contains, length, Some, refl, sym, ap, ap₂, ◌∙◌, subst, inl, inr, append_assoc, append-nil, arith}
use Rattle.std.proofs.lemmas.List.Elements.{All-contains}
use Rattle.std.proofs.lemmas.Option.{none-some}
use Rattle.mz_base.proofs.Offered.{slice_get-append_add}
use Rattle.mz_logic_theory.specs.Tree.{Tree, Trees, none, more, instance, instances, followed_by}
use Rattle.mz_logic_theory.specs.Declaration.{Assertion, Declaration, sort_decl, term_decl, assertion_decl, sorts, signatures, assertions}
use Rattle.mz_logic_theory.specs.Sorts.{Fits, AreProvable}
use Rattle.mz_logic_theory.specs.Variables.{AreDisjoint}
use Rattle.mz_logic_theory.specs.Legality.{IsLegalDecl, IsBinderThere, LegalEnvAfter, IsLegalEnv}
use Rattle.mz_logic_theory.specs.Derivations.{Derivation, Derivations, hypothesis, cite, convert, gap, no_derivs, more_derivs, Derives, AllDerive, CitesOnly, AllCiteOnly, without_gaps}
use Rattle.mz_logic_theory.specs.LegalLists.{AreDummies, IsProvedBy, IsProvedIfTheorem, Statement, IsLegalStatement, LegalAfter, LegalBy, Legal, DraftLegal, any_derivation, declarations}
use Rattle.mz_logic_theory.specs.Closed.{by_citing, AreSupports, by_number, on_support, IsAxiomIn, CitesAxioms, IsClosed, TheoremsClosed}
use Rattle.mz_logic_theory.specs.declared.binder.Binder.{Binder}
use Rattle.mz_logic_theory.specs.declared.binder.SortMods.{SortMods}
use Rattle.mz_logic_theory.proofs.Instance.{one_at}
use Rattle.mz_logic_theory.specs.Laws.{BoundArePlain}
use Rattle.mz_logic_theory.proofs.Extend.{Extends, extends_append, extends_itself, EnvExtends, env_extends_append, fits_extends, disjoint_extends, between_extends, derives_extends, all_derive_extends, assertions-append}
use Rattle.mz_logic_theory.proofs.Sound.{AssertionRight, RightEnv, fits_followed_by}
use Rattle.mz_logic_theory.proofs.LegalIsRight.{right_step}
use Rattle.mz_logic_theory.proofs.Lists.{each_from_all}
use Rattle.mz_logic_theory.proofs.EightRules.{names_there, binders_right}
use Rattle.mz_logic_theory.proofs.Compose.{instance_first}
use Rattle.mz_logic_theory.proofs.Graft.{graft, derives_graft, cites_graft, cites_more}
use Rattle.mz_logic_theory.proofs.Fresh.{IsScoped, AreAllDummies, fresh, fresh_fits, scoped_with_dummies, apart_fresh, split_at}

-- ---- a list of dummies

all_dummies : (ss : List SortMods) (bs : List Binder) → AreDummies ss bs → AreAllDummies bs
all_dummies ss bs h i b at = (h i b at).0

dummies_append : (ss : List SortMods) (as_ bs : List Binder) → AreDummies ss as_ → AreDummies ss bs → AreDummies ss (as_ ++ bs)
dummies_append ss as_ bs h k i b at = elim (split_at as_ bs i b at) [ inl here ↦ h i b here | inr later ↦ k later.0 b later.2 ]

pub dummies_extend : (ss ss' : List SortMods) → Extends ss ss' → (bs : List Binder) → AreDummies ss bs → AreDummies ss' bs
dummies_extend ss ss' longer bs h i b at =
    let k = h i b at in
    (k.0, (k.1.0, longer b.sort k.1.0 k.1.1, k.1.2, k.1.3))

-- ---- hypotheses over the parameters alone

instances_of_provable : (env : List Declaration) (ctx : List Binder) (es fs : Trees) (ps : List Binder) → Fits (signatures env) ctx es ps
    → (gs : Trees) → AreProvable env ps gs → instances (followed_by es fs) gs ≡ instances es gs
instances_of_provable env ctx es fs ps fits none h = refl
instances_of_provable env ctx es fs ps fits (more g gs) h =
    let k = h zero g refl in
    ap₂ more (instance_first (signatures env) ctx es fs ps fits g k.0 k.1) (instances_of_provable env ctx es fs ps fits gs (λ i e at. h (suc i) e at))

same_env : (env : List Declaration) → EnvExtends env env
same_env env = record { sorts_too = extends_itself _; terms_too = extends_itself _; signatures_too = extends_itself _; assertions_too = extends_itself _ }

-- over env what has P rests on what has Q: an axiom with P has Q, and a theorem with P is proved by citations of
-- assertions with Q alone
record RestsOn (env : List Declaration) (P Q : ℕ → Type 0) : Type 0 where
  pub axioms : (T : ℕ) (a : Assertion) → slice_get (assertions env) T ≡ Some a → a.is_axiom ≡ true → P T → Q T
  pub theorems : (T : ℕ) (a : Assertion) → slice_get (assertions env) T ≡ Some a → a.is_axiom ≡ false → P T → IsProvedBy (by_citing Q) env a

-- ---- in every derivation lemmas are inlined, in a context with further dummies

module _ (env : List Declaration) (right : RightEnv env) (P Q : ℕ → Type 0) (rests : RestsOn env P Q) (hyps : Trees) where
  abbrev Closes : List Binder → Tree → Type 0
  Closes ctx e = (new : List Binder) × AreDummies (sorts env) new × ((d : Derivation) × CitesOnly (without_gaps Q) d × Derives env (ctx ++ new) hyps d e)

  abbrev AllClose : List Binder → Trees → Type 0
  AllClose ctx es = (new : List Binder) × AreDummies (sorts env) new × ((ds : Derivations) × AllCiteOnly (without_gaps Q) ds × AllDerive env (ctx ++ new) hyps ds es)

  -- a cited theorem's derivation from axioms alone takes the place of the citation
  cite_closed : (ctx new : List Binder) → IsScoped ctx → AreDummies (sorts env) new → (T : ℕ) (a : Assertion) → slice_get (assertions env) T ≡ Some a
      → (es : Trees) → Fits (signatures env) ctx es a.params → AreDisjoint ctx es a.params
      → (ds : Derivations) → AllCiteOnly (without_gaps Q) ds → AllDerive env (ctx ++ new) hyps ds (instances es a.hyps)
      → IsProvedBy (by_citing Q) env a → Closes ctx (instance es a.conclusion)
  cite_closed ctx new scoped new_dummies T a at es fits apart ds cites they (bs, bs_dummies, (d, d_cites, d_derives)) =
      (new ++ bs, dummies_append (sorts env) new bs new_dummies bs_dummies, (graft f ds d, cites_graft (without_gaps Q) f ds cites d d_cites, derives_all))
    where
      ctx₂ : List Binder
      ctx₂ = ctx ++ new

      f : Trees
      f = followed_by es (fresh (length (ctx ++ new)) bs)

      scoped₂ : IsScoped (ctx ++ new)
      scoped₂ = scoped_with_dummies ctx new scoped (all_dummies (sorts env) new new_dummies)

      fits₂ : Fits (signatures env) (ctx ++ new) es a.params
      fits₂ = fits_extends (signatures env) (signatures env) ctx (ctx ++ new) (extends_itself _) (extends_append ctx new) es a.params fits

      apart₂ : AreDisjoint (ctx ++ new) es a.params
      apart₂ = disjoint_extends (signatures env) ctx (ctx ++ new) (extends_append ctx new) es a.params fits apart

      a_right : AssertionRight env a
      a_right = right.assertions_right T a at

      no_deps : BoundArePlain (a.params ++ bs)
      no_deps i b is bd = elim (split_at a.params bs i b is) [ inl here ↦ a_right.0 i b here bd | inr later ↦ (all_dummies (sorts env) bs bs_dummies later.0 b later.2).1 ]

      f_fits : Fits (signatures env) ((ctx ++ new) ++ bs) (followed_by es (fresh (length (ctx ++ new)) bs)) (a.params ++ bs)
      f_fits = fits_followed_by (signatures env) ((ctx ++ new) ++ bs) es (fresh (length (ctx ++ new)) bs) a.params bs
          (fits_extends (signatures env) (signatures env) (ctx ++ new) ((ctx ++ new) ++ bs) (extends_itself _) (extends_append (ctx ++ new) bs) es a.params fits₂)
          (fresh_fits (signatures env) ((ctx ++ new) ++ bs) (length (ctx ++ new)) bs (λ k b is. slice_get-append_add (ctx ++ new) bs k ∙ is) (all_dummies (sorts env) bs bs_dummies))

      f_apart : AreDisjoint ((ctx ++ new) ++ bs) (followed_by es (fresh (length (ctx ++ new)) bs)) (a.params ++ bs)
      f_apart = apart_fresh (signatures env) (ctx ++ new) scoped₂ es a.params fits₂ apart₂ bs (all_dummies (sorts env) bs bs_dummies)

      given : AllDerive env ((ctx ++ new) ++ bs) hyps ds (instances (followed_by es (fresh (length (ctx ++ new)) bs)) a.hyps)
      given = subst (AllDerive env ((ctx ++ new) ++ bs) hyps ds)
          (sym (instances_of_provable env (ctx ++ new) es (fresh (length (ctx ++ new)) bs) a.params fits₂ a.hyps a_right.1))
          (all_derive_extends env env (ctx ++ new) ((ctx ++ new) ++ bs) (same_env env) (extends_append (ctx ++ new) bs) hyps ds (instances es a.hyps) they)

      grafted : Derives env ((ctx ++ new) ++ bs) hyps (graft (followed_by es (fresh (length (ctx ++ new)) bs)) ds d) (instance (followed_by es (fresh (length (ctx ++ new)) bs)) a.conclusion)
      grafted = derives_graft env ((ctx ++ new) ++ bs) (a.params ++ bs) no_deps (followed_by es (fresh (length (ctx ++ new)) bs)) f_fits f_apart a.hyps hyps ds given d a.conclusion d_derives

      derives_all : Derives env (ctx ++ (new ++ bs)) hyps (graft (followed_by es (fresh (length (ctx ++ new)) bs)) ds d) (instance es a.conclusion)
      derives_all = subst (λ c. Derives env c hyps (graft (followed_by es (fresh (length (ctx ++ new)) bs)) ds d) (instance es a.conclusion)) (append_assoc ctx new bs)
          (subst (Derives env ((ctx ++ new) ++ bs) hyps (graft (followed_by es (fresh (length (ctx ++ new)) bs)) ds d))
          (instance_first (signatures env) (ctx ++ new) es (fresh (length (ctx ++ new)) bs) a.params fits₂ a.conclusion a_right.2.0 a_right.2.1) grafted)

  cite_either : (ctx : List Binder) → IsScoped ctx → (T : ℕ) (a : Assertion) → slice_get (assertions env) T ≡ Some a → P T
      → (es : Trees) → Fits (signatures env) ctx es a.params → AreDisjoint ctx es a.params → AllClose ctx (instances es a.hyps) → Closes ctx (instance es a.conclusion)
  cite_either ctx scoped T a at may es fits apart (new, new_dummies, (ds, cites, they)) = go a.is_axiom refl
    where
      go : (v : Bool) → a.is_axiom ≡ v → Closes ctx (instance es a.conclusion)
      go true is = (
        new,
        new_dummies,
        (
          cite T es ds,
          (rests.axioms T a at is may, cites),
          (
            a,
            at,
            refl,
            fits_extends (signatures env) (signatures env) ctx (ctx ++ new) (extends_itself _) (extends_append ctx new) es a.params fits,
            disjoint_extends (signatures env) ctx (ctx ++ new) (extends_append ctx new) es a.params fits apart,
            they,
          ),
        ),
      )
      go false is = cite_closed ctx new scoped new_dummies T a at es fits apart ds cites they (rests.theorems T a at is may)

  mutual
    closes : (d : Derivation) → CitesOnly (without_gaps P) d → (ctx : List Binder) → IsScoped ctx → (e : Tree) → Derives env ctx hyps d e → Closes ctx e
    closes (hypothesis i) only ctx scoped e at = ([], λ k b is. absurd (none-some _ is), (hypothesis i, tt, at))
    closes (cite T es ds) (may, only) ctx scoped e (a, at, is, fits, apart, h) =
        subst (Closes ctx) (sym is) (cite_either ctx scoped T a at may es fits apart (all_close ds only ctx scoped (instances es a.hyps) h))
    closes (convert x c d) (c_free, only) ctx scoped e (is, (g, h, k)) =
        let r = closes d only ctx scoped g k in
        (r.0, r.1, (convert x c r.2.0, (c_free, r.2.1), (is, (g, between_extends env env ctx (ctx ++ r.0) (same_env env) (extends_append ctx r.0) c x g h, r.2.2))))
    closes (gap x) only ctx scoped e h = absurd only

    all_close : (ds : Derivations) → AllCiteOnly (without_gaps P) ds → (ctx : List Binder) → IsScoped ctx → (es : Trees) → AllDerive env ctx hyps ds es → AllClose ctx es
    all_close no_derivs only ctx scoped none h = ([], λ k b is. absurd (none-some _ is), (no_derivs, tt, tt))
    all_close no_derivs only ctx scoped (more e es) h = absurd h
    all_close (more_derivs d ds) only ctx scoped none h = absurd h
    all_close (more_derivs d ds) (first, only) ctx scoped (more e es) (h, rest) =
        let r = closes d first ctx scoped e h in
        let q = all_close ds only (ctx ++ r.0) (scoped_with_dummies ctx r.0 scoped (all_dummies (sorts env) r.0 r.1)) es
        (all_derive_extends env env ctx (ctx ++ r.0) (same_env env) (extends_append ctx r.0) hyps ds es rest) in (
          r.0 ++ q.0,
          dummies_append (sorts env) r.0 q.0 r.1 q.1,
          (
            more_derivs r.2.0 q.2.0,
            (r.2.1, q.2.1),
            subst (λ c. Derives env c hyps r.2.0 e × AllDerive env c hyps q.2.0 es) (append_assoc ctx r.0 q.0)
                (derives_extends env env (ctx ++ r.0) ((ctx ++ r.0) ++ q.0) (same_env env) (extends_append (ctx ++ r.0) q.0) hyps r.2.0 e r.2.2, q.2.2),
          ),
        )

params_scoped : (env : List Declaration) (a : Assertion) → IsLegalDecl env (assertion_decl a) → IsScoped a.params
params_scoped env a legal = record { no_deps = λ i b at bd. ((binders_right env (assertion_decl a) legal i b at).0 bd).0; inside = inside }
  where
    inside : (i : ℕ) (b : Binder) → slice_get a.params i ≡ Some b → (x : ℕ) → Contains b.deps x → x < length a.params
    inside i b at x has =
        All-contains (λ j. j < length a.params) b.deps x
        (each_from_all (IsBinderThere (sorts env) (length a.params)) a.params (names_there env (assertion_decl a) legal).0 i b at).1 has

close_theorem : (env : List Declaration) → RightEnv env → (P Q : ℕ → Type 0) → RestsOn env P Q → (a : Assertion) → IsLegalDecl env (assertion_decl a)
    → IsProvedBy (by_citing P) env a → IsProvedBy (by_citing Q) env a
close_theorem env right P Q rests a legal (bs, dummies, (d, only, h)) =
    let r = closes env right P Q rests a.hyps d only (a.params ++ bs) (scoped_with_dummies a.params bs (params_scoped env a legal) (all_dummies (sorts env) bs dummies)) a.conclusion h in
    (bs ++ r.0, dummies_append (sorts env) bs r.0 dummies r.1, (r.2.0, r.2.1, subst (λ c. Derives env c a.hyps r.2.0 a.conclusion) (append_assoc a.params bs r.0) r.2.2))

-- ---- over a whole list

-- the same over more declarations, where more may be cited
proved_extends : (env env' : List Declaration) → EnvExtends env env' → (P Q : ℕ → Type 0) → ((T : ℕ) → P T → Q T) → (a : Assertion)
    → IsProvedBy (by_citing P) env a → IsProvedBy (by_citing Q) env' a
proved_extends env env' m P Q wider a (bs, dummies, (d, cites, h)) = (
  bs,
  dummies_extend (sorts env) (sorts env') m.sorts_too bs dummies,
  (
    d,
    cites_more (without_gaps P) (without_gaps Q) wider (λ none. none) d cites,
    derives_extends env env' (a.params ++ bs) (a.params ++ bs) m (extends_itself _) a.hyps d a.conclusion h,
  ),
)

axiom_extends : (env env' : List Declaration) → EnvExtends env env' → (T : ℕ) → IsAxiomIn env T → IsAxiomIn env' T
axiom_extends env env' m T (a, at, is) = (a, m.assertions_too T a at, is)

module _ (cited support : ℕ → ℕ → Type 0) where
  -- what the T-th may rest on
  abbrev Allowed : List Declaration → ℕ → ℕ → Type 0
  Allowed env T A = support T A × IsAxiomIn env A

  -- each theorem of the environment rests on its support
  abbrev AreRested : List Declaration → Type 0
  AreRested env = (T : ℕ) (a : Assertion) → slice_get (assertions env) T ≡ Some a → a.is_axiom ≡ false → IsProvedBy (by_citing (Allowed env T)) env a

  allowed_extends : (env env' : List Declaration) → EnvExtends env env' → (T : ℕ) (a : Assertion) → IsProvedBy (by_citing (Allowed env T)) env a
      → IsProvedBy (by_citing (Allowed env' T)) env' a
  allowed_extends env env' m T a p = proved_extends env env' m (Allowed env T) (Allowed env' T) (λ A h. (h.0, axiom_extends env env' m A h.1)) a p

  -- what the next theorem cites rests on its support
  next_rests : (all env : List Declaration) → AreSupports all cited support → EnvExtends env all → AreRested env
      → RestsOn env (cited (length (assertions env))) (Allowed env (length (assertions env)))
  next_rests all env supports m rested = record {
    axioms = λ T a at is may. (supports.axioms (length (assertions env)) T a (m.assertions_too T a at) is may, (a, at, is));
    theorems = λ T a at is may. proved_extends env env (same_env env) (Allowed env T) (Allowed env (length (assertions env)))
        (λ A h. (supports.theorems (length (assertions env)) T A a (m.assertions_too T a at) is may h.0, h.1)) a (rested T a at is);
  }

  rested_step : (env : List Declaration) (d : Declaration) → AreRested env → IsProvedIfTheorem (on_support support) env d → AreRested (env ++ d ∷ [])
  rested_step env d rested proved T a at is_theorem =
      elim (split_at (assertions env) (assertions (d ∷ [])) T a (subst (λ xs. slice_get xs T ≡ Some a) (assertions-append env (d ∷ [])) at)) [
        | inl old ↦ allowed_extends env (env ++ d ∷ []) m T a (rested T a old is_theorem)
        | inr new ↦ allowed_extends env (env ++ d ∷ []) m T a (new_one d proved new.0 new.1 new.2)
      ]
    where
      m : EnvExtends env (env ++ d ∷ [])
      m = env_extends_append env (d ∷ [])

      new_one : (d' : Declaration) → IsProvedIfTheorem (on_support support) env d' → (j : ℕ) → T ≡ length (assertions env) + j
          → slice_get (assertions (d' ∷ [])) j ≡ Some a → IsProvedBy (by_citing (Allowed env T)) env a
      new_one (sort_decl _) p j e new = absurd (none-some _ new)
      new_one (term_decl _) p j e new = absurd (none-some _ new)
      new_one (assertion_decl a') p (suc j) e new = absurd (none-some _ new)
      new_one (assertion_decl a') p zero e new =
          let same : a' ≡ a = one_at refl new in
          let place : length (assertions env) ≡ T = omega (arith, e) in
          subst (λ n. IsProvedBy (by_citing (Allowed env n)) env a) place (subst (λ x. IsProvedIfTheorem (on_support support) env (assertion_decl x)) same p is_theorem)

  supported_after : (all env : List Declaration) (list : List Statement) → AreSupports all cited support → all ≡ env ++ declarations list → RightEnv env → AreRested env
      → LegalAfter (by_number cited) env list → LegalAfter (on_support support) env list
  supported_after all env [] supports whole right rested h = tt
  supported_after all env (s ∷ ss) supports whole right rested ((legal, mark, proved), rest) = (
    (legal, mark, here),
    supported_after all (env ++ s.decl ∷ []) ss supports (whole ∙ sym (append_assoc env (s.decl ∷ []) (declarations ss)))
        (right_step env s.decl right legal) (rested_step env s.decl rested here) rest,
  )
    where
      m : EnvExtends env all
      m = subst (EnvExtends env) (sym whole) (env_extends_append env (declarations (s ∷ ss)))

      by_decl : (d : Declaration) → IsLegalDecl env d → IsProvedIfTheorem (by_number cited) env d → IsProvedIfTheorem (on_support support) env d
      by_decl (sort_decl _) l p = tt
      by_decl (term_decl _) l p = tt
      by_decl (assertion_decl a) l p = λ is_theorem. close_theorem env right (cited (length (assertions env))) (Allowed env (length (assertions env)))
          (next_rests all env supports m rested) a l (p is_theorem)

      here : IsProvedIfTheorem (on_support support) env s.decl
      here = by_decl s.decl legal proved

pub legal_by_supports : (list : List Statement) (cited support : ℕ → ℕ → Type 0) → AreSupports (declarations list) cited support
    → LegalBy (by_number cited) list → LegalBy (on_support support) list
legal_by_supports list cited support supports h =
    supported_after cited support (declarations list) [] list supports refl
    (record { terms_right = λ t d at. absurd (none-some _ at); assertions_right = λ t a at. absurd (none-some _ at) }) (λ T a at is. absurd (none-some _ at)) h

-- what is allowed by one is by the other
pub legal_by_more : (Q R : List Declaration → Derivation → Type 0) → ((env : List Declaration) (d : Derivation) → Q env d → R env d)
    → (env : List Declaration) (list : List Statement) → LegalAfter Q env list → LegalAfter R env list
legal_by_more Q R wider env [] h = tt
legal_by_more Q R wider env (s ∷ ss) ((legal, mark, proved), rest) = ((legal, mark, by_decl s.decl proved), legal_by_more Q R wider (env ++ s.decl ∷ []) ss rest)
  where
    by_decl : (d : Declaration) → IsProvedIfTheorem Q env d → IsProvedIfTheorem R env d
    by_decl (sort_decl _) p = tt
    by_decl (term_decl _) p = tt
    by_decl (assertion_decl a) p = λ is_theorem. let (bs, dummies, (d, q, h)) = p is_theorem in (bs, dummies, (d, wider env d q, h))

-- a legal list is one by citations of axioms alone: where everything may be cited, each axiom is in the support
pub legal_list_by_axioms : (list : List Statement) → Legal list → LegalBy CitesAxioms list
legal_list_by_axioms list h =
    legal_by_more (on_support (λ T A. Unit {0})) CitesAxioms
    (λ env d cites. cites_more (without_gaps (λ A. Unit {0} × IsAxiomIn env A)) (without_gaps (IsAxiomIn env)) (λ T k. k.1) (λ none. none) d cites) [] list
    (legal_by_supports list (λ T U. Unit {0}) (λ T A. Unit {0}) (record { axioms = λ T U a at is may. tt; theorems = λ T U A a at is may on. tt }) h)

-- ---- a list read statement by statement

-- what stands in a legal list is legal over the statements before it
pub legal_at : (Q : List Declaration → Derivation → Type 0) (env : List Declaration) (before after : List Statement) (s : Statement)
    → LegalAfter Q env (before ++ s ∷ after) → IsLegalStatement Q (env ++ declarations before) s
legal_at Q env [] after s h = subst (λ e. IsLegalStatement Q e s) (sym (append-nil env)) h.0
legal_at Q env (b ∷ before) after s h =
    subst (λ e. IsLegalStatement Q e s) (append_assoc env (b.decl ∷ []) (declarations before)) (legal_at Q (env ++ b.decl ∷ []) before after s h.1)

pub legal_list_is_closed : (list : List Statement) → Legal list → TheoremsClosed list
legal_list_is_closed list h before after s a is is_a is_theorem =
    subst (IsProvedIfTheorem CitesAxioms (declarations before)) is_a
    (legal_at CitesAxioms [] before after s (subst (LegalBy CitesAxioms) is (legal_list_by_axioms list h))).2 is_theorem

-- the declarations of a legal list are a legal environment
legal_env_after : (Q : List Declaration → Derivation → Type 0) (env : List Declaration) (list : List Statement) → LegalAfter Q env list → LegalEnvAfter env (declarations list)
legal_env_after Q env [] h = tt
legal_env_after Q env (s ∷ ss) h = (h.0.0, legal_env_after Q (env ++ s.decl ∷ []) ss h.1)

pub legal_list_is_legal_env : (Q : List Declaration → Derivation → Type 0) (list : List Statement) → LegalBy Q list → IsLegalEnv (declarations list)
legal_list_is_legal_env Q list h = legal_env_after Q [] list h

-- ---- where some theorems aren't proved: those without G have a derivation that cites none with G

module _ (G : ℕ → Type 0) where
  abbrev Free : List Declaration → ℕ → Type 0
  Free env T = (T < length (assertions env)) × (G T → ⊥)

  abbrev ClosedBut : List Declaration → Type 0
  ClosedBut env = (T : ℕ) (a : Assertion) → slice_get (assertions env) T ≡ Some a → a.is_axiom ≡ false → (G T → ⊥) → IsClosed env a

  closed_next : (env : List Declaration) → RightEnv env → ClosedBut env → (a : Assertion) → IsLegalDecl env (assertion_decl a)
      → IsProvedBy (by_citing (Free env)) env a → IsClosed env a
  closed_next env right closed a legal p = close_theorem env right (Free env) (IsAxiomIn env)
      (record { axioms = λ T b at is may. (b, at, is); theorems = λ T b at is may. closed T b at is may.1 }) a legal p

  closed_step : (env : List Declaration) (d : Declaration) → ClosedBut env
      → ((a : Assertion) → d ≡ assertion_decl a → a.is_axiom ≡ false → (G (length (assertions env)) → ⊥) → IsClosed env a) → ClosedBut (env ++ d ∷ [])
  closed_step env d closed new T a at is_theorem free =
      elim (split_at (assertions env) (assertions (d ∷ [])) T a (subst (λ xs. slice_get xs T ≡ Some a) (assertions-append env (d ∷ [])) at)) [
        | inl old ↦ longer (closed T a old is_theorem free)
        | inr last ↦ longer (new_one d refl last.0 last.1 last.2)
      ]
    where
      m : EnvExtends env (env ++ d ∷ [])
      m = env_extends_append env (d ∷ [])

      longer : IsClosed env a → IsClosed (env ++ d ∷ []) a
      longer p = proved_extends env (env ++ d ∷ []) m (IsAxiomIn env) (IsAxiomIn (env ++ d ∷ [])) (axiom_extends env (env ++ d ∷ []) m) a p

      new_one : (d' : Declaration) → d ≡ d' → (j : ℕ) → T ≡ length (assertions env) + j → slice_get (assertions (d' ∷ [])) j ≡ Some a → IsClosed env a
      new_one (sort_decl _) is j e there = absurd (none-some _ there)
      new_one (term_decl _) is j e there = absurd (none-some _ there)
      new_one (assertion_decl b) is (suc j) e there = absurd (none-some _ there)
      new_one (assertion_decl b) is zero e there =
          let same : b ≡ a = one_at refl there in
          let place : length (assertions env) ≡ T = omega (arith, e) in
          new a (is ∙ ap assertion_decl same) is_theorem (λ g. free (subst G place g))

  -- each theorem without G has a derivation that cites none with G
  abbrev FreeAfter : List Declaration → List Statement → Type 0
  FreeAfter env list = (before after : List Statement) (s : Statement) (a : Assertion) → list ≡ before ++ s ∷ after → s.decl ≡ assertion_decl a → a.is_axiom ≡ false
      → (G (length (assertions (env ++ declarations before))) → ⊥) → IsProvedBy (by_citing (Free (env ++ declarations before))) (env ++ declarations before) a

  free_first : (env : List Declaration) (s : Statement) (ss : List Statement) → FreeAfter env (s ∷ ss) → (a : Assertion) → s.decl ≡ assertion_decl a → a.is_axiom ≡ false
      → (G (length (assertions env)) → ⊥) → IsProvedBy (by_citing (Free env)) env a
  free_first env s ss free a says is_theorem may =
      subst (λ e. IsProvedBy (by_citing (Free e)) e a) (append-nil env)
      (free [] ss s a refl says is_theorem (λ g. may (subst (λ e. G (length (assertions e))) (append-nil env) g)))

  free_later : (env : List Declaration) (s : Statement) (ss : List Statement) → FreeAfter env (s ∷ ss) → FreeAfter (env ++ s.decl ∷ []) ss
  free_later env s ss free before after t a at says is_theorem may =
      let whole = append_assoc env (s.decl ∷ []) (declarations before) in
      subst (λ e. IsProvedBy (by_citing (Free e)) e a) (sym whole)
      (free (s ∷ before) after t a (ap (λ xs. s ∷ xs) at) says is_theorem (λ g. may (subst (λ e. G (length (assertions e))) (sym whole) g)))

  closed_at : (env : List Declaration) (before after : List Statement) (s : Statement) (a : Assertion) → RightEnv env → ClosedBut env
      → LegalAfter any_derivation env (before ++ s ∷ after) → FreeAfter env (before ++ s ∷ after) → s.decl ≡ assertion_decl a → a.is_axiom ≡ false
      → (G (length (assertions (env ++ declarations before))) → ⊥) → IsClosed (env ++ declarations before) a
  closed_at env [] after s a right closed ((legal, _, _), _) free says is_theorem may =
      subst (λ e. IsClosed e a) (sym (append-nil env))
      (closed_next env right closed a (subst (IsLegalDecl env) says legal)
      (free_first env s after free a says is_theorem (λ g. may (subst (λ e. G (length (assertions e))) (sym (append-nil env)) g))))
  closed_at env (b ∷ before) after s a right closed ((legal, _, _), rest) free says is_theorem may =
      let whole = append_assoc env (b.decl ∷ []) (declarations before) in
      subst (λ e. IsClosed e a) whole
      (closed_at (env ++ b.decl ∷ []) before after s a (right_step env b.decl right legal)
      (closed_step env b.decl closed (λ c is is_c none. closed_next env right closed c (subst (IsLegalDecl env) is legal) (free_first env b (before ++ s ∷ after) free c is is_c none)))
      rest (free_later env b (before ++ s ∷ after) free) says is_theorem (λ g. may (subst (λ e. G (length (assertions e))) whole g)))

  pub closed_unless : (list : List Statement) → DraftLegal list → FreeAfter [] list → (before after : List Statement) (s : Statement) (a : Assertion)
      → list ≡ before ++ s ∷ after → s.decl ≡ assertion_decl a → a.is_axiom ≡ false → (G (length (assertions (declarations before))) → ⊥) → IsClosed (declarations before) a
  closed_unless list legal free before after s a at says is_theorem may =
      closed_at [] before after s a (record { terms_right = λ t d there. absurd (none-some _ there); assertions_right = λ t b there. absurd (none-some _ there) })
      (λ T b there is. absurd (none-some _ there)) (subst DraftLegal at legal) (subst (FreeAfter []) at free) says is_theorem may
