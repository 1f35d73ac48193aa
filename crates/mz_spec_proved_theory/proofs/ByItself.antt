-- Where no sort may be that of a dummy, and each definition of a specification has its body there, what a list of statements
-- proves of it follows from its own declarations alone.
use Rattle.std.proofs.Common.{ℕ, zero, suc, ◌≡◌, ◌⊎◌, ◌+◌, ◌++◌, Bool, true, false, List, [], ◌∷◌, slice_get, Contains, length, take, Some, refl, sym, ap, ap₂, ◌∙◌, subst, inl, inr, arith, append_assoc, length-append}
use Rattle.std.specs.Prelude.{if◌then◌else◌}
use Rattle.std.specs.List.{All}
use Rattle.std.proofs.lemmas.Option.{none-some}
use Rattle.std.proofs.lemmas.List.{append-nil}
use Rattle.std.proofs.lemmas.List.Elements.{All-head}
use Rattle.mz_base.specs.Checks.{AllHold}
use Rattle.mz_base.proofs.Offered.{slice_get-append, slice_get-last, slice_get-push_cases}
use Rattle.mz_logic_theory.specs.Tree.{Tree, Trees, var, app, none, more}
use Rattle.mz_logic_theory.specs.Declaration.{Declaration, sort_decl, term_decl, assertion_decl, Term, Assertion, Form, plain_form, abstract_form, defined, dummies_of, body_of, sorts, terms, signatures, assertions}
use Rattle.mz_logic_theory.specs.Modifiers.{MayBeDummySort}
use Rattle.mz_logic_theory.specs.Sorts.{HasSort}
use Rattle.mz_logic_theory.specs.Legality.{EachTree, IsDummy, IsLegalDecl, LegalEnvAfter, IsLegalEnv}
use Rattle.mz_logic_theory.specs.Variables.{InFV}
use Rattle.mz_logic_theory.specs.Derivations.{Derives}
use Rattle.mz_logic_theory.specs.LegalLists.{Statement, declarations, gap_free, MayBeLocal, LegalAfter, Legal, IsLegalStatement, AreDummies}
use Rattle.mz_logic_theory.specs.Signature.{Signature}
use Rattle.mz_logic_theory.specs.declared.binder.Binder.{Binder}
use Rattle.mz_logic_theory.specs.declared.binder.ResultType.{ResultType}
use Rattle.mz_logic_theory.specs.declared.binder.SortMods.{SortMods}
use Rattle.mz_logic_theory.proofs.Offered.{assertions-append, each_from_all, env_extends_append, extends_itself, legal_list_is_closed, length-signatures, range_of_sort, sort_extends, sorts-append, terms-append, terms_are_sorted}
use Rattle.mz_spec_proved_theory.specs.declared.kind.Kind.TheVariants as kinds
use Rattle.mz_spec_proved_theory.specs.AlphaTrees.{SameOver, AllSameOver, SameTree, SameTrees, IsPaired, SameBody}
use Rattle.mz_spec_proved_theory.specs.Match.{partner_of, publics, publics_after, term_rows, term_row_of, kind_of, kind_of_form, form_checks, part_checks, match_checks, Agrees}
use Rattle.mz_spec_proved_theory.specs.Headline.{Proves}
use Rattle.mz_spec_proved_theory.specs.Proved.{stated}
use Rattle.mz_logic_theory.specs.Closed.{IsClosed}
use Rattle.mz_spec_proved_theory.specs.ByItself.{BarsDummies, IsConcrete, IsConcreteForm}
use Rattle.mz_spec_proved_theory.proofs.Lists.{publics-public, term_rows-append}
use Rattle.mz_spec_proved_theory.proofs.FormedLegally.{legal-list}
use Rattle.mz_spec_proved_theory.proofs.SameDeclared.{agree}
use Rattle.mz_spec_proved_theory.proofs.Specifying.{specified-legal}
use Rattle.mz_spec_proved_theory.proofs.ProvingTheorems.{legal-front, publics-skips, standing}
use Rattle.mz_spec_proved_theory.proofs.Spelling.{Stands, kept, spelled, put, spelt, all_spelt, Within, AllWithin, within-range, within-ranges, within-more, all-within-more, spelt-more, all-spelt-more, StandsFor, Leads, OwnAxiom, spelt-sort, spelt-derives}

-- ---- an environment that grows

terms-cases : (env : List Declaration) (s : Declaration) (t : ℕ) (d : Term) → slice_get (terms (env ++ s ∷ [])) t ≡ Some d
    → (slice_get (terms env) t ≡ Some d) ⊎ ((t ≡ length (terms env)) × (s ≡ term_decl d))
terms-cases env s t d at = go s (ap (λ ts. slice_get ts t) (sym (terms-append env (s ∷ []))) ∙ at)
  where
    go : (s : Declaration) → slice_get (terms env ++ terms (s ∷ [])) t ≡ Some d → (slice_get (terms env) t ≡ Some d) ⊎ ((t ≡ length (terms env)) × (s ≡ term_decl d))
    go (sort_decl m) at = inl (ap (λ ts. slice_get ts t) (sym (append-nil (terms env))) ∙ at)
    go (assertion_decl a) at = inl (ap (λ ts. slice_get ts t) (sym (append-nil (terms env))) ∙ at)
    go (term_decl c) at = elim (slice_get-push_cases (terms env) c t d at) [
      | inl old ↦ inl old
      | inr (is, same) ↦ inr (is, ap term_decl same)
    ]

assertions-cases : (env : List Declaration) (s : Declaration) (T : ℕ) (a : Assertion) → slice_get (assertions (env ++ s ∷ [])) T ≡ Some a
    → (slice_get (assertions env) T ≡ Some a) ⊎ (s ≡ assertion_decl a)
assertions-cases env s T a at = go s (ap (λ ts. slice_get ts T) (sym (assertions-append env (s ∷ []))) ∙ at)
  where
    go : (s : Declaration) → slice_get (assertions env ++ assertions (s ∷ [])) T ≡ Some a → (slice_get (assertions env) T ≡ Some a) ⊎ (s ≡ assertion_decl a)
    go (sort_decl m) at = inl (ap (λ ts. slice_get ts T) (sym (append-nil (assertions env))) ∙ at)
    go (term_decl d) at = inl (ap (λ ts. slice_get ts T) (sym (append-nil (assertions env))) ∙ at)
    go (assertion_decl c) at = elim (slice_get-push_cases (assertions env) c T a at) [
      | inl old ↦ inl old
      | inr (is, same) ↦ inr (ap assertion_decl same)
    ]

-- what stands for the declared term
abbrev pub StandsForNew : List Stands → List Stands → List Declaration → Declaration → Type 0
StandsForNew news plan own s = (t : Term) → s ≡ term_decl t → (st : Stands) × (news ≡ st ∷ []) × StandsFor plan own t st

module _ (plan news : List Stands) (env own ds : List Declaration) (s : Declaration) (many : length plan ≡ length (terms env)) (leads : Leads plan env own)
    (stands : StandsForNew news (plan ++ news) (own ++ ds) s)
    (plain : (t : Term) (dummies : List Binder) (body : Tree) → s ≡ term_decl t → t.form ≡ defined dummies body → (dummies ≡ []) × Within (length plan) (length t.signature.params) body)
    (axioms : (a : Assertion) → s ≡ assertion_decl a → a.is_axiom ≡ true
    → AllWithin (length plan) (length a.params) a.hyps × Within (length plan) (length a.params) a.conclusion × OwnAxiom (plan ++ news) (own ++ ds) a) where
  longer : (n : ℕ) (e : Tree) → Within (length plan) n e → Within (length (plan ++ news)) n e
  longer n e h = subst (λ m. Within m n e) (sym (length-append plan news)) (within-more (length plan) (length news) n e h)

  all-longer : (n : ℕ) (es : Trees) → AllWithin (length plan) n es → AllWithin (length (plan ++ news)) n es
  all-longer n es h = subst (λ m. AllWithin m n es) (sym (length-append plan news)) (all-within-more (length plan) (length news) n es h)

  still : (d : Term) (st : Stands) → ((dummies : List Binder) (body : Tree) → d.form ≡ defined dummies body → Within (length plan) (length d.signature.params) body)
      → StandsFor plan own d st → StandsFor (plan ++ news) (own ++ ds) d st
  still d (kept k) within (e, at, same, form) = (
    e,
    ap (λ ts. slice_get ts k) (terms-append own ds) ∙ slice_get-append (terms own) (terms ds) k e at,
    same,
    λ dummies body is. form dummies body is ∙ ap (defined []) (sym (spelt-more plan news (length d.signature.params) body (within dummies body is))),
  )
  still d (spelled b) within (sorted, form) = (
    sort_extends (signatures own) (signatures (own ++ ds)) d.signature.params d.signature.params (env_extends_append own ds).signatures_too (extends_itself d.signature.params) b d.signature.result.sort sorted,
    λ dummies body is. form dummies body is ∙ sym (spelt-more plan news (length d.signature.params) body (within dummies body is)),
  )

  grown-each : (t : ℕ) (d : Term) → (slice_get (terms env) t ≡ Some d) ⊎ ((t ≡ length (terms env)) × (s ≡ term_decl d))
      → (st : Stands) × (slice_get (plan ++ news) t ≡ Some st) × StandsFor (plan ++ news) (own ++ ds) d st
  grown-each t d (inl old) =
      let lead = leads.each t d old in
      (lead.0, slice_get-append plan news t lead.0 lead.1, still d lead.0 (λ dummies body is. (leads.plain t d dummies body old is).1) lead.2)
  grown-each t d (inr (is, says)) =
      let new = stands d says in
      (new.0, ap (λ xs. slice_get (plan ++ xs) t) new.1 ∙ ap (slice_get (plan ++ new.0 ∷ [])) (is ∙ sym many) ∙ slice_get-last plan new.0, new.2)

  grown-plain : (t : ℕ) (d : Term) (dummies : List Binder) (body : Tree) → (slice_get (terms env) t ≡ Some d) ⊎ ((t ≡ length (terms env)) × (s ≡ term_decl d)) → d.form ≡ defined dummies body
      → (dummies ≡ []) × Within (length (plan ++ news)) (length d.signature.params) body
  grown-plain t d dummies body (inl old) form = let h = leads.plain t d dummies body old form in (h.0, longer (length d.signature.params) body h.1)
  grown-plain t d dummies body (inr (is, says)) form = let h = plain d dummies body says form in (h.0, longer (length d.signature.params) body h.1)

  grown-axioms : (T : ℕ) (a : Assertion) → (slice_get (assertions env) T ≡ Some a) ⊎ (s ≡ assertion_decl a) → a.is_axiom ≡ true
      → AllWithin (length (plan ++ news)) (length a.params) a.hyps × Within (length (plan ++ news)) (length a.params) a.conclusion × OwnAxiom (plan ++ news) (own ++ ds) a
  grown-axioms T a (inl old) is =
      let ax = leads.axioms T a old is in
      let (U, b, at, is_axiom, params, hyps, conclusion) = ax.2 in (
        all-longer (length a.params) a.hyps ax.0,
        longer (length a.params) a.conclusion ax.1,
        (
          U,
          b,
          ap (λ ts. slice_get ts U) (assertions-append own ds) ∙ slice_get-append (assertions own) (assertions ds) U b at,
          is_axiom,
          params,
          hyps ∙ sym (all-spelt-more plan news (length a.params) a.hyps ax.0),
          conclusion ∙ sym (spelt-more plan news (length a.params) a.conclusion ax.1),
        ),
      )
  grown-axioms T a (inr says) is =
      let ax = axioms a says is in (all-longer (length a.params) a.hyps ax.0, longer (length a.params) a.conclusion ax.1, ax.2)

  pub grown : Leads (plan ++ news) (env ++ s ∷ []) (own ++ ds)
  grown = record {
    each = λ t d at. grown-each t d (terms-cases env s t d at);
    plain = λ t d dummies body at form. grown-plain t d dummies body (terms-cases env s t d at) form;
    axioms = λ T a at is. grown-axioms T a (assertions-cases env s T a at) is;
  }

-- ---- the same expressions, spelled out

-- the specification's k-th term is kept for the one in its row
abbrev pub RowsKept : List ℕ → List Stands → Type 0
RowsKept rows plan = (k t : ℕ) → slice_get rows k ≡ Some t → slice_get plan t ≡ Some (kept k)

module _ (rows : List ℕ) (plan : List Stands) (are_kept : RowsKept rows plan) (V : ℕ → ℕ → Type 0) (same : (x y : ℕ) → V x y → x ≡ y) where
  mutual
    pub spelt-same : (e f : Tree) → SameOver V rows e f → spelt plan f ≡ e
    spelt-same (var x) (var y) h = ap var (sym (same x y h))
    spelt-same (var x) (app t fs) h = absurd h
    spelt-same (app k es) (var y) h = absurd h
    spelt-same (app k es) (app t fs) (at, all) = ap (λ o. put o (all_spelt plan fs)) (are_kept k t at) ∙ ap (app k) (all-spelt-same es fs all)

    pub all-spelt-same : (es fs : Trees) → AllSameOver V rows es fs → all_spelt plan fs ≡ es
    all-spelt-same none none h = refl
    all-spelt-same none (more f fs) h = absurd h
    all-spelt-same (more e es) none h = absurd h
    all-spelt-same (more e es) (more f fs) (h, all) = ap₂ more (spelt-same e f h) (all-spelt-same es fs all)

-- ---- the first statements of a list, beside what they declare of the specification

pub record Stage (front : List Statement) (own : List Declaration) : Type 0 where
  pub plan : List Stands
  pub leads : Leads plan (declarations front) own
  pub many : length plan ≡ length (terms (declarations front))
  pub kept_rows : RowsKept (term_rows 0 front) plan
  pub few : length (term_rows 0 front) ≡ length (terms own)
  pub same_sorts : sorts own ≡ sorts (declarations front)

declarations-push : (front : List Statement) (s : Statement) → declarations (front ++ s ∷ []) ≡ declarations front ++ s.decl ∷ []
declarations-push [] s = refl
declarations-push (x ∷ front) s = ap (λ ds. x.decl ∷ ds) (declarations-push front s)

-- the rows of one statement more
rows-local : (front : List Statement) (s : Statement) → s.is_local ≡ true → term_rows 0 (front ++ s ∷ []) ≡ term_rows 0 front
rows-local front s is =
    term_rows-append 0 front (s ∷ []) ∙ ap (λ k. term_rows 0 front ++ term_rows k (s ∷ [])) (let zero_plus : 0 + length (terms (declarations front)) ≡ length (terms (declarations front)) = omega arith in zero_plus) ∙ ap (λ (b : Bool). term_rows 0 front ++ ((if b then [] else term_row_of (length (terms (declarations front))) s.decl) ++ [])) is
    ∙ append-nil (term_rows 0 front)

rows-public : (front : List Statement) (s : Statement) → s.is_local ≡ false → term_rows 0 (front ++ s ∷ []) ≡ term_rows 0 front ++ term_row_of (length (terms (declarations front))) s.decl
rows-public front s is =
    term_rows-append 0 front (s ∷ []) ∙ ap (λ k. term_rows 0 front ++ term_rows k (s ∷ [])) (let zero_plus : 0 + length (terms (declarations front)) ≡ length (terms (declarations front)) = omega arith in zero_plus) ∙ ap (λ (b : Bool). term_rows 0 front ++ ((if b then [] else term_row_of (length (terms (declarations front))) s.decl) ++ [])) is
    ∙ ap (λ xs. term_rows 0 front ++ xs) (append-nil (term_row_of (length (terms (declarations front))) s.decl))

-- a definition of a legal list has no dummies, and its body the result's sort
body-there : (env : List Declaration) (d : Term) → IsLegalDecl env (term_decl d) → BarsDummies env → (dummies : List Binder) (body : Tree) → d.form ≡ defined dummies body
    → (dummies ≡ []) × HasSort (signatures env) d.signature.params body d.signature.result.sort
body-there env d legal bars dummies body form =
    let facts = (terms_are_sorted env d).0 legal in
    let bare : dummies ≡ [] = bare-of dummies (subst (λ f. All (λ b. IsDummy b × MayBeDummySort (sorts env) b.sort) (dummies_of f)) form facts.2) in
    let sorted = subst (λ f. EachTree (λ e. HasSort (signatures env) (d.signature.params ++ dummies_of f) e d.signature.result.sort × ((x : ℕ) → InFV (signatures env) (d.signature.params ++ dummies_of f) x e → Contains d.signature.result.deps x)) (body_of f)) form facts.5 in
    (bare, subst (λ ctx. HasSort (signatures env) ctx body d.signature.result.sort) (ap (λ ds. d.signature.params ++ ds) bare ∙ append-nil d.signature.params) sorted.0.0)
  where
    bare-of : (dummies : List Binder) → All (λ b. IsDummy b × MayBeDummySort (sorts env) b.sort) dummies → dummies ≡ []
    bare-of [] h = refl
    bare-of (b ∷ bs) h = absurd (bars b.sort (All-head (λ b. IsDummy b × MayBeDummySort (sorts env) b.sort) b bs h).1)

-- ---- one statement more

-- what is said of the new rows and declarations makes the next stage
next-stage : (front : List Statement) (own ds : List Declaration) (s : Statement) (news : List Stands) (stage : Stage front own)
    → Leads (stage.plan ++ news) (declarations front ++ s.decl ∷ []) (own ++ ds) → length news ≡ length (terms (s.decl ∷ []))
    → RowsKept (term_rows 0 (front ++ s ∷ [])) (stage.plan ++ news) → length (term_rows 0 (front ++ s ∷ [])) ≡ length (terms (own ++ ds))
    → sorts ds ≡ sorts (s.decl ∷ []) → Stage (front ++ s ∷ []) (own ++ ds)
next-stage front own ds s news stage leads new are_kept few same = record {
  plan = stage.plan ++ news;
  leads = subst (λ env. Leads (stage.plan ++ news) env (own ++ ds)) (sym (declarations-push front s)) leads;
  many = length-append stage.plan news ∙ ap₂ (λ a b. a + b) stage.many new ∙ sym (length-append (terms (declarations front)) (terms (s.decl ∷ [])))
      ∙ sym (ap length (terms-append (declarations front) (s.decl ∷ []))) ∙ sym (ap (λ env. length (terms env)) (declarations-push front s));
  kept_rows = are_kept;
  few = few;
  same_sorts = sorts-append own ds ∙ ap₂ (λ a b. a ++ b) stage.same_sorts same ∙ sym (sorts-append (declarations front) (s.decl ∷ [])) ∙ sym (ap sorts (declarations-push front s));
}

-- rows that are kept stay so
rows-stay : (rows : List ℕ) (plan news : List Stands) → RowsKept rows plan → RowsKept rows (plan ++ news)
rows-stay rows plan news are_kept k t at = slice_get-append plan news t (kept k) (are_kept k t at)

-- what bars dummies among the specification's sorts bars them among the list's
bars-there : (front : List Statement) (own : List Declaration) → Stage front own → BarsDummies own → BarsDummies (declarations front)
bars-there front own stage bars s may = bars s (subst (λ ss. MayBeDummySort ss s) (sym stage.same_sorts) may)

within-body : (env : List Declaration) (plan : List Stands) → length plan ≡ length (terms env) → (ctx : List Binder) (e : Tree) (s : ℕ) → HasSort (signatures env) ctx e s → Within (length plan) (length ctx) e
within-body env plan many ctx e s h =
    subst (λ m. Within m (length ctx) e) (length-signatures env ∙ sym many) (within-range (signatures env) (length ctx) e (range_of_sort (signatures env) ctx e s h))

within-claims : (env : List Declaration) (plan : List Stands) → length plan ≡ length (terms env) → (a : Assertion) → IsLegalDecl env (assertion_decl a)
    → AllWithin (length plan) (length a.params) a.hyps × Within (length plan) (length a.params) a.conclusion
within-claims env plan many a legal =
    let same = length-signatures env ∙ sym many in (
      subst (λ m. AllWithin m (length a.params) a.hyps) same (within-ranges (signatures env) (length a.params) a.hyps legal.0.1),
      subst (λ m. Within m (length a.params) a.conclusion) same (within-range (signatures env) (length a.params) a.conclusion legal.0.2),
    )

same-assertion : {a b : Assertion} → assertion_decl a ≡ assertion_decl b → a ≡ b
same-assertion is = cc

same-term : {a b : Term} → term_decl a ≡ term_decl b → a ≡ b
same-term is = cc

-- ---- a local statement

local-definition : (front : List Statement) (own : List Declaration) (s : Statement) (d : Term) (stage : Stage front own) → s.decl ≡ term_decl d → s.is_local ≡ true
    → IsLegalDecl (declarations front) (term_decl d) → BarsDummies own → (dummies : List Binder) (body : Tree) → d.form ≡ defined dummies body → Stage (front ++ s ∷ []) (own ++ [])
local-definition front own s d stage says is legal bars dummies body form =
    let env = declarations front in
    let there = body-there env d legal (bars-there front own stage bars) dummies body form in
    let within = within-body env stage.plan stage.many d.signature.params body d.signature.result.sort there.1 in
    let st = spelled (spelt stage.plan body) in
    let news = st ∷ [] in
    let sorted : HasSort (signatures (own ++ [])) d.signature.params (spelt stage.plan body) d.signature.result.sort =
    subst (λ o. HasSort (signatures o) d.signature.params (spelt stage.plan body) d.signature.result.sort) (sym (append-nil own))
    (spelt-sort stage.plan env own stage.leads d.signature.params body d.signature.result.sort there.1) in
    next-stage front own [] s news stage
    (grown stage.plan news env own [] s.decl stage.many stage.leads
    (λ t is_t. let same : d ≡ t = same-term (sym says ∙ is_t) in
    subst (λ c. (x : Stands) × (news ≡ x ∷ []) × StandsFor (stage.plan ++ news) (own ++ []) c x) same
    (st, refl, (sorted, λ ds b is_b. let one : body ≡ b = same-body (sym form ∙ is_b) in ap (spelt stage.plan) one ∙ sym (spelt-more stage.plan news (length d.signature.params) b (subst (Within (length stage.plan) (length d.signature.params)) one within)))))
    (λ t ds b is_t is_b. let same : d ≡ t = same-term (sym says ∙ is_t) in
    let is_b' : d.form ≡ defined ds b = ap (λ c. c.form) same ∙ is_b in (
      same-dummies (sym is_b' ∙ form) ∙ there.0,
      subst (λ c. Within (length stage.plan) (length c.signature.params) b) same (subst (Within (length stage.plan) (length d.signature.params)) (same-body (sym form ∙ is_b')) within),
    ))
    (λ a is_a. absurd (let p : term_decl d ≡ assertion_decl a = sym says ∙ is_a in cc)))
    (sym (ap (λ c. length (terms (c ∷ []))) says))
    (subst (λ rows. RowsKept rows (stage.plan ++ news)) (sym (rows-local front s is)) (rows-stay (term_rows 0 front) stage.plan news stage.kept_rows))
    (ap length (rows-local front s is) ∙ stage.few ∙ sym (ap (λ o. length (terms o)) (append-nil own)))
    (sym (ap (λ c. sorts (c ∷ [])) says))
  where
    same-body : {ds es : List Binder} {b c : Tree} → defined ds b ≡ defined es c → b ≡ c
    same-body is = cc

    same-dummies : {ds es : List Binder} {b c : Tree} → defined ds b ≡ defined es c → ds ≡ es
    same-dummies is = cc

local-theorem : (front : List Statement) (own : List Declaration) (s : Statement) (a : Assertion) (stage : Stage front own) → s.decl ≡ assertion_decl a → s.is_local ≡ true
    → a.is_axiom ≡ false → Stage (front ++ s ∷ []) (own ++ [])
local-theorem front own s a stage says is theorem =
    next-stage front own [] s [] stage
    (grown stage.plan [] (declarations front) own [] s.decl stage.many stage.leads
    (λ t is_t. absurd (let p : assertion_decl a ≡ term_decl t = sym says ∙ is_t in cc))
    (λ t ds b is_t is_b. absurd (let p : assertion_decl a ≡ term_decl t = sym says ∙ is_t in cc))
    (λ b is_b is_ax. absurd (let same : a ≡ b = same-assertion (sym says ∙ is_b) in let p : true ≡ false = sym is_ax ∙ sym (ap (λ c. c.is_axiom) same) ∙ theorem in cc)))
    (sym (ap (λ c. length (terms (c ∷ []))) says))
    (subst (λ rows. RowsKept rows (stage.plan ++ [])) (sym (rows-local front s is)) (rows-stay (term_rows 0 front) stage.plan [] stage.kept_rows))
    (ap length (rows-local front s is) ∙ stage.few ∙ sym (ap (λ o. length (terms o)) (append-nil own)))
    (sym (ap (λ c. sorts (c ∷ [])) says))

local-step : (front : List Statement) (own : List Declaration) (s : Statement) → Stage front own → IsLegalStatement gap_free (declarations front) s → s.is_local ≡ true → BarsDummies own
    → Stage (front ++ s ∷ []) own
local-step front own s stage (legal, may, _) is bars = subst (Stage (front ++ s ∷ [])) (append-nil own) (go s.decl refl)
  where
    by-form : (d : Term) (f : Form) → d.form ≡ f → s.decl ≡ term_decl d → Stage (front ++ s ∷ []) (own ++ [])
    by-form d plain_form form says = absurd (subst MayBeLocal says (may is) (ap body_of form))
    by-form d abstract_form form says = absurd (subst MayBeLocal says (may is) (ap body_of form))
    by-form d (defined dummies body) form says = local-definition front own s d stage says is (subst (IsLegalDecl (declarations front)) says legal) bars dummies body form

    go : (c : Declaration) → s.decl ≡ c → Stage (front ++ s ∷ []) (own ++ [])
    go (sort_decl m) says = absurd (subst MayBeLocal says (may is))
    go (term_decl d) says = by-form d d.form refl says
    go (assertion_decl a) says = local-theorem front own s a stage says is (subst MayBeLocal says (may is))

-- ---- a public statement

not-assertion : (f : Form) (ax : Bool) → kind_of_form f ≡ (if ax then kinds.Axiom else kinds.Theorem) → ⊥
not-assertion plain_form true is = cc
not-assertion plain_form false is = cc
not-assertion abstract_form true is = cc
not-assertion abstract_form false is = cc
not-assertion (defined ds e) true is = cc
not-assertion (defined ds e) false is = cc

-- a body that is the same, where the partner has no dummies
same-bodies : (rows : List ℕ) (plan : List Stands) → RowsKept rows plan → (n : ℕ) (ds es : List Binder) (e f : Tree) → es ≡ [] → SameBody rows n ds es e f → spelt plan f ≡ e
same-bodies rows plan are_kept n ds es e f bare (pairs, good, same) = spelt-same rows plan are_kept (IsPaired n pairs) one e f same
  where
    one : (x y : ℕ) → IsPaired n pairs x y → x ≡ y
    one x y (inl h) = h.0
    one x y (inr (p, k, _, _, at)) =
        let sorts_kept = good.keeps_sorts k p at in absurd (none-some sorts_kept.1 (sym (ap (λ bs. slice_get bs k) bare) ∙ sorts_kept.3))

-- what the specification's term has for a body
own-form : (rows : List ℕ) (plan : List Stands) → RowsKept rows plan → (n : ℕ) (f g : Form) → IsConcreteForm f → kind_of_form f ≡ kind_of_form g → AllHold (form_checks rows n f g)
    → ((ds : List Binder) (body : Tree) → f ≡ defined ds body → ds ≡ []) → (es : List Binder) (other : Tree) → g ≡ defined es other → es ≡ [] → f ≡ defined [] (spelt plan other)
own-form rows plan are_kept n plain_form g concrete kind checks bare es other form none_there = absurd (let p : kinds.Term ≡ kinds.Definition = kind ∙ ap kind_of_form form in cc)
own-form rows plan are_kept n abstract_form g concrete kind checks bare es other form none_there = absurd concrete
own-form rows plan are_kept n (defined ds body) g concrete kind checks bare es other form none_there =
    let same : SameBody rows n ds es body other = (subst (λ h. AllHold (form_checks rows n (defined ds body) h)) form checks).0 in
    ap₂ defined (bare ds body refl) (sym (same-bodies rows plan are_kept n ds es body other none_there same))

public-sort : (front : List Statement) (own : List Declaration) (s : Statement) (m n : SortMods) (stage : Stage front own) → s.decl ≡ sort_decl n → s.is_local ≡ false → m ≡ n
    → Stage (front ++ s ∷ []) (own ++ sort_decl m ∷ [])
public-sort front own s m n stage says is same =
    let rows = rows-public front s is ∙ ap (λ c. term_rows 0 front ++ term_row_of (length (terms (declarations front))) c) says ∙ append-nil (term_rows 0 front) in
    next-stage front own (sort_decl m ∷ []) s [] stage
    (grown stage.plan [] (declarations front) own (sort_decl m ∷ []) s.decl stage.many stage.leads
    (λ t is_t. absurd (let p : sort_decl n ≡ term_decl t = sym says ∙ is_t in cc))
    (λ t ds b is_t is_b. absurd (let p : sort_decl n ≡ term_decl t = sym says ∙ is_t in cc))
    (λ a is_a is_ax. absurd (let p : sort_decl n ≡ assertion_decl a = sym says ∙ is_a in cc)))
    (sym (ap (λ c. length (terms (c ∷ []))) says))
    (subst (λ xs. RowsKept xs (stage.plan ++ [])) (sym rows) (rows-stay (term_rows 0 front) stage.plan [] stage.kept_rows))
    (ap length rows ∙ stage.few ∙ sym (ap length (terms-append own (sort_decl m ∷ []) ∙ append-nil (terms own))))
    (ap (λ x. x ∷ []) same ∙ sym (ap (λ c. sorts (c ∷ [])) says))

public-assertion : (front : List Statement) (own : List Declaration) (s : Statement) (a b : Assertion) (stage : Stage front own) → s.decl ≡ assertion_decl b → s.is_local ≡ false
    → IsLegalDecl (declarations front) (assertion_decl b) → kind_of (assertion_decl a) ≡ kind_of (assertion_decl b) → a.params ≡ b.params
    → SameTrees (term_rows 0 front) a.hyps b.hyps → SameTree (term_rows 0 front) a.conclusion b.conclusion → Stage (front ++ s ∷ []) (own ++ assertion_decl a ∷ [])
public-assertion front own s a b stage says is legal kind params hyps conclusion =
    let rows = rows-public front s is ∙ ap (λ c. term_rows 0 front ++ term_row_of (length (terms (declarations front))) c) says ∙ append-nil (term_rows 0 front) in
    let within = within-claims (declarations front) stage.plan stage.many b legal in
    let hyps_same : all_spelt stage.plan b.hyps ≡ a.hyps = all-spelt-same (term_rows 0 front) stage.plan stage.kept_rows (λ x y. x ≡ y) (λ x y h. h) a.hyps b.hyps hyps in
    let conclusion_same : spelt stage.plan b.conclusion ≡ a.conclusion = spelt-same (term_rows 0 front) stage.plan stage.kept_rows (λ x y. x ≡ y) (λ x y h. h) a.conclusion b.conclusion conclusion in
    next-stage front own (assertion_decl a ∷ []) s [] stage
    (grown stage.plan [] (declarations front) own (assertion_decl a ∷ []) s.decl stage.many stage.leads
    (λ t is_t. absurd (let p : assertion_decl b ≡ term_decl t = sym says ∙ is_t in cc))
    (λ t ds c is_t is_c. absurd (let p : assertion_decl b ≡ term_decl t = sym says ∙ is_t in cc))
    (λ c is_c is_ax. let same : b ≡ c = same-assertion (sym says ∙ is_c) in
    subst (λ x. AllWithin (length stage.plan) (length x.params) x.hyps × Within (length stage.plan) (length x.params) x.conclusion × OwnAxiom (stage.plan ++ []) (own ++ assertion_decl a ∷ []) x) same (
      within.0,
      within.1,
      (
        length (assertions own),
        a,
        ap (λ xs. slice_get xs (length (assertions own))) (assertions-append own (assertion_decl a ∷ [])) ∙ slice_get-last (assertions own) a,
        axiom-too a.is_axiom b.is_axiom kind (ap (λ x. x.is_axiom) same ∙ is_ax),
        params,
        sym hyps_same ∙ sym (all-spelt-more stage.plan [] (length b.params) b.hyps within.0),
        sym conclusion_same ∙ sym (spelt-more stage.plan [] (length b.params) b.conclusion within.1),
      ),
    )))
    (sym (ap (λ c. length (terms (c ∷ []))) says))
    (subst (λ xs. RowsKept xs (stage.plan ++ [])) (sym rows) (rows-stay (term_rows 0 front) stage.plan [] stage.kept_rows))
    (ap length rows ∙ stage.few ∙ sym (ap length (terms-append own (assertion_decl a ∷ []) ∙ append-nil (terms own))))
    (sym (ap (λ c. sorts (c ∷ [])) says))
  where
    axiom-too : (x y : Bool) → (if x then kinds.Axiom else kinds.Theorem) ≡ (if y then kinds.Axiom else kinds.Theorem) → y ≡ true → x ≡ true
    axiom-too true y is is_y = refl
    axiom-too false true is is_y = absurd cc
    axiom-too false false is is_y = is_y

public-term : (front : List Statement) (own : List Declaration) (s : Statement) (d e : Term) (stage : Stage front own) → s.decl ≡ term_decl e → s.is_local ≡ false
    → IsLegalDecl (declarations front) (term_decl e) → IsLegalDecl own (term_decl d) → BarsDummies own → IsConcreteForm d.form → kind_of_form d.form ≡ kind_of_form e.form
    → d.signature.params ≡ e.signature.params → d.signature.result ≡ e.signature.result → AllHold (form_checks (term_rows 0 front) (length d.signature.params) d.form e.form)
    → Stage (front ++ s ∷ []) (own ++ term_decl d ∷ [])
public-term front own s d e stage says is legal own_legal bars concrete kind params result checks =
    let env = declarations front in
    let news = kept (length (terms own)) ∷ [] in
    let rows : term_rows 0 (front ++ s ∷ []) ≡ term_rows 0 front ++ length (terms env) ∷ [] =
    rows-public front s is ∙ ap (λ c. term_rows 0 front ++ term_row_of (length (terms env)) c) says in
    let here : slice_get (terms (own ++ term_decl d ∷ [])) (length (terms own)) ≡ Some d = ap (λ xs. slice_get xs (length (terms own))) (terms-append own (term_decl d ∷ [])) ∙ slice_get-last (terms own) d in
    let there = λ (ds : List Binder) (body : Tree) (form : e.form ≡ defined ds body). body-there env e legal (bars-there front own stage bars) ds body form in
    let within = λ (ds : List Binder) (body : Tree) (form : e.form ≡ defined ds body). within-body env stage.plan stage.many e.signature.params body e.signature.result.sort (there ds body form).1 in
    next-stage front own (term_decl d ∷ []) s news stage
    (grown stage.plan news env own (term_decl d ∷ []) s.decl stage.many stage.leads
    (λ t is_t. subst (λ c. (x : Stands) × (news ≡ x ∷ []) × StandsFor (stage.plan ++ news) (own ++ term_decl d ∷ []) c x) (same-term (sym says ∙ is_t)) (
      kept (length (terms own)),
      refl,
      (
        d,
        here,
        same-signature d.signature e.signature params result,
        λ ds body form. own-form (term_rows 0 front) stage.plan stage.kept_rows (length d.signature.params) d.form e.form concrete kind checks
            (λ es b own_is. (body-there own d own_legal bars es b own_is).0) ds body form (there ds body form).0
            ∙ ap (defined []) (sym (spelt-more stage.plan news (length e.signature.params) body (within ds body form))),
      ),
    ))
    (λ t ds b is_t is_b. let same : e ≡ t = same-term (sym says ∙ is_t) in
    let form : e.form ≡ defined ds b = ap (λ c. c.form) same ∙ is_b in
    ((there ds b form).0, subst (λ c. Within (length stage.plan) (length c.signature.params) b) same (within ds b form)))
    (λ a is_a is_ax. absurd (let p : term_decl e ≡ assertion_decl a = sym says ∙ is_a in cc)))
    (sym (ap (λ c. length (terms (c ∷ []))) says))
    (subst (λ xs. RowsKept xs (stage.plan ++ news)) (sym rows) (λ k t at. row-kept k t (slice_get-push_cases (term_rows 0 front) (length (terms env)) k t at)))
    (ap length rows ∙ length-append (term_rows 0 front) (length (terms env) ∷ []) ∙ ap (λ n. n + 1) stage.few ∙ sym (length-append (terms own) (d ∷ [])) ∙ sym (ap length (terms-append own (term_decl d ∷ []))))
    (sym (ap (λ c. sorts (c ∷ [])) says))
  where
    same-signature : (g h : Signature) → g.params ≡ h.params → g.result ≡ h.result → g ≡ h
    same-signature g h params result = ap₂ (λ p r. the-signature p r) params result
      where
        the-signature : List Binder → ResultType → Signature
        the-signature p r = record { params = p; result = r }

    row-kept : (k t : ℕ) → (slice_get (term_rows 0 front) k ≡ Some t) ⊎ ((k ≡ length (term_rows 0 front)) × (length (terms (declarations front)) ≡ t))
        → slice_get (stage.plan ++ kept (length (terms own)) ∷ []) t ≡ Some (kept k)
    row-kept k t (inl old) = slice_get-append stage.plan (kept (length (terms own)) ∷ []) t (kept k) (stage.kept_rows k t old)
    row-kept k t (inr (at, place)) =
        ap (slice_get (stage.plan ++ kept (length (terms own)) ∷ [])) (sym place ∙ sym stage.many) ∙ slice_get-last stage.plan (kept (length (terms own))) ∙ ap (λ n. Some (kept n)) (sym stage.few ∙ sym at)

public-step : (front : List Statement) (own : List Declaration) (s : Statement) (d : Declaration) → Stage front own → IsLegalDecl (declarations front) s.decl → s.is_local ≡ false
    → IsLegalDecl own d → BarsDummies own → IsConcrete d → AllHold (match_checks d (partner_of front s)) → Stage (front ++ s ∷ []) (own ++ d ∷ [])
public-step front own s d stage legal is own_legal bars concrete (kind, checks) = go d s.decl refl own_legal concrete kind checks
  where
    go : (d c : Declaration) → s.decl ≡ c → IsLegalDecl own d → IsConcrete d → kind_of d ≡ kind_of s.decl → AllHold (part_checks (term_rows 0 front) d s.decl) → Stage (front ++ s ∷ []) (own ++ d ∷ [])
    go (sort_decl m) (sort_decl n) says own_legal concrete kind checks = public-sort front own s m n stage says is (subst (λ c. AllHold (part_checks (term_rows 0 front) (sort_decl m) c)) says checks).0
    go (sort_decl m) (term_decl e) says own_legal concrete kind checks = absurd (not-sort e.form (kind ∙ ap kind_of says))
      where
        not-sort : (f : Form) → kinds.Sort ≡ kind_of_form f → ⊥
        not-sort plain_form is = cc
        not-sort abstract_form is = cc
        not-sort (defined ds b) is = cc
    go (sort_decl m) (assertion_decl b) says own_legal concrete kind checks = absurd (not-sort b.is_axiom (kind ∙ ap kind_of says))
      where
        not-sort : (x : Bool) → kinds.Sort ≡ (if x then kinds.Axiom else kinds.Theorem) → ⊥
        not-sort true is = cc
        not-sort false is = cc
    go (term_decl t) (sort_decl n) says own_legal concrete kind checks = absurd (not-sort t.form (kind ∙ ap kind_of says))
      where
        not-sort : (f : Form) → kind_of_form f ≡ kinds.Sort → ⊥
        not-sort plain_form is = cc
        not-sort abstract_form is = cc
        not-sort (defined ds b) is = cc
    go (term_decl t) (term_decl e) says own_legal concrete kind checks =
        let parts = subst (λ c. AllHold (part_checks (term_rows 0 front) (term_decl t) c)) says checks in
        public-term front own s t e stage says is (subst (IsLegalDecl (declarations front)) says legal) own_legal bars concrete (kind ∙ ap kind_of says) parts.0 parts.1.0 parts.1.1
    go (term_decl t) (assertion_decl b) says own_legal concrete kind checks = absurd (not-assertion t.form b.is_axiom (kind ∙ ap kind_of says))
    go (assertion_decl a) (sort_decl n) says own_legal concrete kind checks = absurd (not-sort a.is_axiom (kind ∙ ap kind_of says))
      where
        not-sort : (x : Bool) → (if x then kinds.Axiom else kinds.Theorem) ≡ kinds.Sort → ⊥
        not-sort true is = cc
        not-sort false is = cc
    go (assertion_decl a) (term_decl e) says own_legal concrete kind checks = absurd (not-assertion e.form a.is_axiom (sym (kind ∙ ap kind_of says)))
    go (assertion_decl a) (assertion_decl b) says own_legal concrete kind checks =
        let parts = subst (λ c. AllHold (part_checks (term_rows 0 front) (assertion_decl a) c)) says checks in
        public-assertion front own s a b stage says is (subst (IsLegalDecl (declarations front)) says legal) (kind ∙ ap kind_of says) parts.0 parts.1.0 parts.1.1.0

-- ---- all statements

abbrev pub AreConcrete : List Declaration → Type 0
AreConcrete ds = (i : ℕ) (d : Declaration) → slice_get ds i ≡ Some d → IsConcrete d

-- what the statements add to a stage
abbrev pub Staged : List Statement → List Statement → Type 0
Staged front ss = (own ds : List Declaration) → Stage front own → LegalAfter gap_free (declarations front) ss → LegalEnvAfter own ds → AreConcrete ds
    → BarsDummies (own ++ ds) → Agrees ds (publics_after front ss) → Stage (front ++ ss) (own ++ ds)

-- what bars dummies in all declarations bars them in the first
bars-front : (own ds : List Declaration) → BarsDummies (own ++ ds) → BarsDummies own
bars-front own ds bars s (m, at, strict, free) = bars s (m, ap (λ xs. slice_get xs s) (sorts-append own ds) ∙ slice_get-append (sorts own) (sorts ds) s m at, strict, free)

staged-local : (front : List Statement) (s : Statement) (ss : List Statement) → s.is_local ≡ true → Staged (front ++ s ∷ []) ss → Staged front (s ∷ ss)
staged-local front s ss is later own ds stage legal own_legal concrete bars agrees =
    subst (λ xs. Stage xs (own ++ ds)) (append_assoc front (s ∷ []) ss)
    (later own ds (local-step front own s stage legal.0 is (bars-front own ds bars)) (subst (λ env. LegalAfter gap_free env ss) (sym (declarations-push front s)) legal.1)
    own_legal concrete bars (subst (Agrees ds) (publics-skips front s ss is) agrees))

staged-public : (front : List Statement) (s : Statement) (ss : List Statement) → s.is_local ≡ false → Staged (front ++ s ∷ []) ss → (own ds : List Declaration) → Stage front own
    → LegalAfter gap_free (declarations front) (s ∷ ss) → LegalEnvAfter own ds → AreConcrete ds → BarsDummies (own ++ ds)
    → Agrees ds (partner_of front s ∷ publics_after (front ++ s ∷ []) ss) → Stage (front ++ s ∷ ss) (own ++ ds)
staged-public front s ss is later own [] stage legal own_legal concrete bars agrees = absurd agrees
staged-public front s ss is later own (d ∷ ds) stage legal own_legal concrete bars agrees =
    let here = public-step front own s d stage legal.0.0 is own_legal.0 (bars-front own (d ∷ ds) bars) (concrete zero d refl) agrees.0 in
    let all = later (own ++ d ∷ []) ds here (subst (λ env. LegalAfter gap_free env ss) (sym (declarations-push front s)) legal.1) own_legal.1 (λ i c at. concrete (suc i) c at)
    (subst BarsDummies (sym (append_assoc own (d ∷ []) ds)) bars) agrees.1 in
    subst (λ xs. Stage xs (own ++ d ∷ ds)) (append_assoc front (s ∷ []) ss) (subst (Stage ((front ++ s ∷ []) ++ ss)) (append_assoc own (d ∷ []) ds) all)

staged-by : (front : List Statement) (s : Statement) (ss : List Statement) (local : Bool) → s.is_local ≡ local → Staged (front ++ s ∷ []) ss → Staged front (s ∷ ss)
staged-by front s ss true is later = staged-local front s ss is later
staged-by front s ss false is later = λ own ds stage legal own_legal concrete bars agrees.
    staged-public front s ss is later own ds stage legal own_legal concrete bars (subst (Agrees ds) (publics-public front s ss is) agrees)

staged : (ss front : List Statement) → Staged front ss
staged [] front own [] stage legal own_legal concrete bars agrees = subst (λ xs. Stage xs (own ++ [])) (sym (append-nil front)) (subst (Stage front) (sym (append-nil own)) stage)
staged [] front own (d ∷ ds) stage legal own_legal concrete bars agrees = absurd agrees
staged (s ∷ ss) front own ds stage legal own_legal concrete bars agrees =
    staged-by front s ss s.is_local refl (λ own ds stage legal own_legal concrete bars agrees. staged ss (front ++ s ∷ []) own ds stage legal own_legal concrete bars agrees)
    own ds stage legal own_legal concrete bars agrees

-- nothing stands beside nothing
no-stage : Stage [] []
no-stage = record {
  plan = [];
  leads = record { each = λ t d at. absurd (none-some _ at); plain = λ t d ds body at form. absurd (none-some _ at); axioms = λ T a at is. absurd (none-some _ at) };
  many = refl;
  kept_rows = λ k t at. absurd (none-some _ at);
  few = refl;
  same_sorts = refl;
}

-- ---- theorems

legal-take : (env ds : List Declaration) (n : ℕ) → LegalEnvAfter env ds → LegalEnvAfter env (take n ds)
legal-take env [] zero legal = tt
legal-take env [] (suc n) legal = tt
legal-take env (d ∷ ds) zero legal = tt
legal-take env (d ∷ ds) (suc n) legal = (legal.0, legal-take (env ++ d ∷ []) ds n legal.1)

pub by-itself : (ds : List Declaration) (ss : List Statement) → IsLegalEnv ds → Legal ss → Agrees ds (publics ss) → (i : ℕ) (a : Assertion) → slice_get ds i ≡ Some (assertion_decl a)
    → a.is_axiom ≡ false → AreConcrete (take i ds) → BarsDummies (take i ds) → IsClosed (take i ds) a
by-itself ds ss own_legal legal agrees i a at theorem concrete bars_here =
    let (before, proved, after, among, same, is_theorem, fewer, _) = standing ds ss agrees i a at theorem in
    let stage : Stage before (take i ds) = staged before [] [] (take i ds) no-stage (legal-front gap_free [] before (stated proved ∷ after) (subst Legal among legal))
    (legal-take [] ds i own_legal) concrete bars_here fewer in
    let (dummies, are, (d, cites, derives)) = legal_list_is_closed ss legal before after (stated proved) proved among refl is_theorem in
    let bare : dummies ≡ [] = bare-of (declarations before) (bars-there before (take i ds) stage bars_here) dummies are in
    let facts : (a.params ≡ proved.params) × SameTrees (term_rows 0 before) a.hyps proved.hyps × SameTree (term_rows 0 before) a.conclusion proved.conclusion = (same.1.0, same.1.1.0, same.1.1.1.0) in
    let hyps = all-spelt-same (term_rows 0 before) stage.plan stage.kept_rows (λ x y. x ≡ y) (λ x y h. h) a.hyps proved.hyps facts.1 in
    let conclusion = spelt-same (term_rows 0 before) stage.plan stage.kept_rows (λ x y. x ≡ y) (λ x y h. h) a.conclusion proved.conclusion facts.2 in
    let own = spelt-derives stage.plan (declarations before) (take i ds) stage.leads (proved.params ++ dummies) proved.hyps d cites proved.conclusion derives in
    let context : proved.params ++ dummies ≡ a.params ++ [] = ap₂ (λ ps bs. ps ++ bs) (sym facts.0) bare in (
      [],
      (λ k b there. absurd (none-some _ there)),
      (
        own.0,
        own.1,
        subst (λ ctx. Derives (take i ds) ctx a.hyps own.0 a.conclusion) context
            (subst (λ hs. Derives (take i ds) (proved.params ++ dummies) hs own.0 a.conclusion) hyps
            (subst (Derives (take i ds) (proved.params ++ dummies) (all_spelt stage.plan proved.hyps) own.0) conclusion own.2)),
      ),
    )
  where
    bare-of : (env : List Declaration) → BarsDummies env → (dummies : List Binder) → AreDummies (sorts env) dummies → dummies ≡ []
    bare-of env bars [] are = refl
    bare-of env bars (b ∷ bs) are = absurd (bars b.sort (are zero b refl).1)

-- the same of a specification that is proved
pub follows-itself : (spec : List ℕ) (p : Proves spec) (i : ℕ) (a : Assertion) → slice_get p.declared i ≡ Some (assertion_decl a) → a.is_axiom ≡ false
    → All IsConcrete (take i p.declared) → BarsDummies (take i p.declared) → IsClosed (take i p.declared) a
follows-itself spec p i a at theorem concrete bars =
    by-itself p.declared p.statements (specified-legal spec p.declared p.is_spec) (legal-list [] p.statements p.legal) (agree [] p.declared p.statements p.agrees) i a at theorem
    (λ k d there. each_from_all IsConcrete (take i p.declared) concrete k d there) bars
