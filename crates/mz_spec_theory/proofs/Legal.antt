-- What a good statement declares is legal.
use Rattle.std.proofs.Common.{◌≡◌, ◌∙◌, ◌++◌, ◌<◌, ◌+◌, ℕ, zero, suc, List, [], ◌∷◌, length, map, take, Bool, true, false, Option, Some, None, slice_get, All, Contains, ap, sym, refl, subst, inl, inr, arith}
use Rattle.std.proofs.lemmas.List.{append-nil}
use Rattle.std.proofs.lemmas.List.Elements.{All-nil}
use Rattle.std.proofs.lemmas.Option.{slice_get_within}
use Rattle.std.specs.Prelude.{◌||◌, unwrap_or, option_and_then}
use Rattle.mz_base.proofs.Offered.{slice_get-some, slice_get-map_at, all_hold-rest, number-within}
use Rattle.mz_lex.specs.Lexemes.{Lexeme}
use Rattle.mz_base.specs.Checks.{AllHold, each_in_order}
use Rattle.mz_logic_theory.specs.Tree.{Tree, Trees, none, more, followed_by}
use Rattle.mz_logic_theory.specs.Declaration.{Declaration, term_decl, Form, plain_form, abstract_form, defined, dummies_of as form_dummies, body_of, sorts, signatures}
use Rattle.mz_logic_theory.specs.Legality.{IsLegalDecl, IsParam, AreParams, IsDummy, EachTree}
use Rattle.mz_logic_theory.specs.Laws.{SortsThere}
use Rattle.mz_logic_theory.specs.Modifiers.{IsPure, IsStrict, MayBeBoundSort, MayBeDummySort}
use Rattle.mz_logic_theory.specs.Sorts.{HasSort, HasProvable, AreProvable}
use Rattle.mz_logic_theory.specs.Variables.{InFV, IsBoundAt}
use Rattle.mz_logic_theory.specs.declared.binder.Binder.{Binder}
use Rattle.mz_logic_theory.specs.declared.binder.SortMods.{SortMods}
use Rattle.mz_logic_theory.proofs.Offered.{all_from_each, terms_are_sorted, assertions_are_sorted}
use Rattle.mz_lex.specs.declared.tokens.MathToken.{MathToken}
use Rattle.mz_math_theory.specs.declared.wanted.Wanted.TheVariants.{Sort as of_sort}
use Rattle.mz_math_theory.specs.Kept.{IsTable, AreVariables}
use Rattle.mz_math_theory.proofs.Offered.{one-meaning}
use Rattle.mz_spec_theory.specs.Statement.{TypeText, Source, type_source, formula_source, NameText, Group, Head, SpecStatement, sort_statement, term_statement, assert_statement, definition_statement, operator_statement, coercion_statement, delimiter_statement, notation_statement}
use Rattle.mz_spec_theory.specs.declared.kind.AssertKind.{AssertKind}
use Rattle.mz_base.specs.Names.{IsKnown}
use Rattle.mz_spec_theory.specs.View.{Variable, Stated, claim, body, view, variable_of, source_variables, group_variables, variables_of, unnamed, source_types, types_of, group_types, stated_of, names_of, params_of, dummies_of, is_among}
use Rattle.mz_spec_theory.specs.Rules.{are_others, type_checks, mods_of, HasSortThat, IsBinder, HaveBinders, DependsOnNothing, IsResult, IsDummySort, IsNotPure, statement_checks}
use Rattle.mz_spec_theory.specs.Dependencies.{Every, IsCalled, IsBoundAmong, dep_places}
use Rattle.mz_spec_theory.specs.State.{State, sort_number, binder_of, param_binders, dummy_binders, result_of, signature_of, scope_of, reader_of}
use Rattle.mz_spec_theory.specs.Formulas.{IsMeant, AreHyps, CoversFreeVariables, copies}
use Rattle.mz_spec_theory.specs.Declaring.{Declares, IsForm, is_axiom}
use Rattle.mz_spec_theory.specs.Kept.{IsKept, IsSpelled}
use Rattle.mz_spec_theory.proofs.Naming.{every-front, every-join, IsWritten, spelled-written, plain-written, variables-written}
use Rattle.mz_spec_theory.proofs.Places.{one-param, param-at, dummy-at, binder-at, split-variables}
use Rattle.mz_spec_theory.proofs.VariablePlaces.{every-text, among, all-places, no-deps, get-back, get-take}
use Rattle.mz_spec_theory.proofs.Sorted.{claim-sorted, body-sorted}
use Rattle.mz_spec_theory.proofs.Good.{good-others, good-types, good-binders, good-dummies, good-results, good-free}

-- ---- sorts

-- beside each sort stands its name
abbrev Named : State → Type 0
Named σ = length σ.sort_names ≡ length (sorts σ.env)

sort-there : (σ : State) (t : TypeText) → Named σ → IsKnown σ.sort_names t.sort.text → (m : SortMods) × (slice_get (sorts σ.env) (sort_number σ t) ≡ Some m) × (mods_of σ t ≡ Some m)
sort-there σ t names (n, is) =
    let within = number-within σ.sort_names t.sort.text n is in
    let found = slice_get-some (sorts σ.env) n (omega (arith, within, names)) in
    (found.0, ap (λ o. slice_get (sorts σ.env) (unwrap_or o 0)) is ∙ found.1, ap (option_and_then (λ k. slice_get (sorts σ.env) k)) is ∙ found.1)

sort-allowed : (σ : State) (t : TypeText) (P : SortMods → Type 0) → Named σ → IsKnown σ.sort_names t.sort.text → (HasSortThat σ P t → ⊥)
    → (m : SortMods) × (slice_get (sorts σ.env) (sort_number σ t) ≡ Some m) × (P m → ⊥)
sort-allowed σ t P names known out = let found = sort-there σ t names known in (found.0, found.1, λ p. out (found.0, found.2, p))

abbrev SortIsKnown : State → TypeText → Type 0
SortIsKnown σ t = IsKnown σ.sort_names t.sort.text

-- the sort of each variable's type is known
abbrev IsSorted : State → Variable → Type 0
IsSorted σ v = SortIsKnown σ v.type

types-known : (σ : State) (names : List (List ℕ)) (ts : List TypeText) → AllHold (each_in_order (type_checks σ names) ts) → Every (SortIsKnown σ) ts
types-known σ names [] all = tt
types-known σ names (t ∷ ts) all = (all.0, types-known σ names ts (all_hold-rest (type_checks σ names t) (each_in_order (type_checks σ names) ts) all))

pub every-at : {A : Type 0} → (P : A → Type 0) (xs : List A) (k : ℕ) (x : A) → Every P xs → slice_get xs k ≡ Some x → P x
every-at P [] k x all at = absurd cc
every-at P (y ∷ xs) zero x all at = let same : y ≡ x = cc in subst P same all.0
every-at P (y ∷ xs) (suc k) x all at = every-at P xs k x all.1 at

names-sorted : (σ : State) (b : Bool) (t : TypeText) (ns : List NameText) → SortIsKnown σ t → Every (IsSorted σ) (map (variable_of b t) ns)
names-sorted σ b t [] has = tt
names-sorted σ b t (n ∷ ns) has = (has, names-sorted σ b t ns has)

source-sorted : (σ : State) (b : Bool) (ns : List NameText) (s : Source) → Every (SortIsKnown σ) (source_types s) → Every (IsSorted σ) (source_variables b ns s)
source-sorted σ b ns (type_source t) (has, _) = names-sorted σ b t ns has
source-sorted σ b ns (formula_source f) has = tt

groups-sorted : (σ : State) (gs : List Group) → Every (SortIsKnown σ) (group_types gs) → Every (IsSorted σ) (variables_of gs)
groups-sorted σ [] all = tt
groups-sorted σ (g ∷ gs) all =
    let parts = every-front (SortIsKnown σ) (source_types g.source) (group_types gs) all in
    every-join (IsSorted σ) (group_variables g) (variables_of gs) (source-sorted σ g.is_bound g.names g.source parts.0) (groups-sorted σ gs parts.1)

unnamed-sorted : (σ : State) (ts : List TypeText) → Every (SortIsKnown σ) ts → Every (IsSorted σ) (map unnamed ts)
unnamed-sorted σ [] all = tt
unnamed-sorted σ (t ∷ ts) (has, all) = (has, unnamed-sorted σ ts all)

-- ---- dummies are bound

abbrev IsRight : Variable → Type 0
IsRight v = v.is_dummy ≡ true → v.is_bound ≡ true

names-right : (b : Bool) (t : TypeText) (ns : List NameText) → Every IsRight (map (variable_of b t) ns)
names-right b t [] = tt
names-right b t (n ∷ ns) = (go b n.is_dummy, names-right b t ns)
  where
    go : (b c : Bool) → c ≡ true → (b || c) ≡ true
    go true c is = refl
    go false c is = is

groups-right : (gs : List Group) → Every IsRight (variables_of gs)
groups-right [] = tt
groups-right (g ∷ gs) = every-join IsRight (group_variables g) (variables_of gs) (go g.source) (groups-right gs)
  where
    go : (s : Source) → Every IsRight (source_variables g.is_bound g.names s)
    go (type_source t) = names-right g.is_bound t g.names
    go (formula_source f) = tt

-- ---- parameters, dummies and results

module _ (σ : State) (vs : List Variable) (results : List TypeText) (names : Named σ) (sorted : Every (IsSorted σ) vs) (others : AllHold (are_others [] vs)) (binders : HaveBinders σ vs results) where
  abbrev ps : List Variable
  ps = params_of vs

  abbrev params : List Binder
  params = param_binders σ vs

  abbrev ss : List SortMods
  ss = sorts σ.env

  bound-at : (k : ℕ) (w : Variable) → slice_get ps k ≡ Some w → w.is_bound ≡ true → IsBoundAt params k
  bound-at k w at is = (binder_of σ ps w, slice_get-map_at (binder_of σ ps) ps k w at, is)

  param-sorted : (i : ℕ) (v : Variable) → slice_get ps i ≡ Some v → IsSorted σ v
  param-sorted i v at = let found = param-at vs i v at in every-at (IsSorted σ) vs found.0 v sorted found.1

  -- dependencies that are bound among the first i parameters
  dep-right : (i : ℕ) (ds : List Lexeme) → Every (IsBoundAmong (take i ps)) ds → All (λ j. (j < i) × IsBoundAt params j) (dep_places 0 ps ds)
  dep-right i ds all = all-places (λ j. (j < i) × IsBoundAt params j) 0 ps ds each
    where
      each : (k : ℕ) (v : Variable) → slice_get ps k ≡ Some v → is_among ds v.name ≡ true → (0 + k < i) × IsBoundAt params (0 + k)
      each k v at is =
          let found = among (λ x. (j : ℕ) × (w : Variable) × (slice_get (take i ps) j ≡ Some w) × (w.is_bound ≡ true) × IsCalled w.name x) ds v.name (every-text (take i ps) ds all) is in
          let w = found.2.1 in
          let there = get-take ps i found.2.0 w found.2.2 in
          let same : found.2.0 ≡ 0 + k = one-param vs found.2.0 k w v found.0 others there.1 at found.2.4 found.1 ∙ (let e : k ≡ 0 + k = omega arith in e) in
          subst (λ j. (j < i) × IsBoundAt params j) same (there.0, bound-at found.2.0 w there.1 found.2.3)

  pub result-right : (t : TypeText) → IsResult ps t → All (IsBoundAt params) (dep_places 0 ps t.deps)
  result-right t is_result = all-places (IsBoundAt params) 0 ps t.deps each
    where
      each : (k : ℕ) (v : Variable) → slice_get ps k ≡ Some v → is_among t.deps v.name ≡ true → IsBoundAt params (0 + k)
      each k v at is =
          let found = among (λ x. (j : ℕ) × (w : Variable) × (slice_get ps j ≡ Some w) × (w.is_bound ≡ true) × IsCalled w.name x) t.deps v.name (every-text ps t.deps is_result) is in
          let w = found.2.1 in
          let same : found.2.0 ≡ 0 + k = one-param vs found.2.0 k w v found.0 others found.2.2 at found.2.4 found.1 ∙ (let e : k ≡ 0 + k = omega arith in e) in
          subst (IsBoundAt params) same (bound-at found.2.0 w found.2.2 found.2.3)

  pub params-right : AreParams ss params
  params-right i b at = subst (IsParam ss params i) (sym found.2) (bound, regular)
    where
      found : (v : Variable) × (slice_get ps i ≡ Some v) × (b ≡ binder_of σ ps v)
      found = get-back (binder_of σ ps) ps i b at

      here : IsBinder σ (take i ps) found.0
      here = binder-at σ [] ps i found.0 binders.0 found.1

      bound : found.0.is_bound ≡ true → (dep_places 0 ps found.0.type.deps ≡ []) × MayBeBoundSort ss (sort_number σ found.0.type)
      bound is =
          let rules = here.0 is in
          (ap (dep_places 0 ps) rules.0 ∙ no-deps 0 ps, sort-allowed σ found.0.type IsStrict names (param-sorted i found.0 found.1) rules.1)

      regular : found.0.is_bound ≡ false → All (λ j. (j < i) × IsBoundAt params j) (dep_places 0 ps found.0.type.deps)
      regular is = dep-right i found.0.type.deps here.1

  pub sorts-there : SortsThere ss params
  sorts-there = all_from_each (λ b. b.sort < length ss) params each
    where
      each : (i : ℕ) (b : Binder) → slice_get params i ≡ Some b → b.sort < length ss
      each i b at =
          let found = get-back (binder_of σ ps) ps i b at in
          let there = sort-there σ found.0.type names (param-sorted i found.0 found.1) in
          subst (λ x. x.sort < length ss) (sym found.2) (slice_get_within ss (sort_number σ found.0.type) there.0 there.1)

  pub dummies-right : Every IsRight vs → Every (IsDummySort σ) (dummies_of vs) → All (λ b. IsDummy b × MayBeDummySort ss b.sort) (dummy_binders σ vs)
  dummies-right right allowed = all_from_each (λ b. IsDummy b × MayBeDummySort ss b.sort) (dummy_binders σ vs) each
    where
      each : (i : ℕ) (b : Binder) → slice_get (dummy_binders σ vs) i ≡ Some b → IsDummy b × MayBeDummySort ss b.sort
      each i b at =
          let found = get-back (binder_of σ ps) (dummies_of vs) i b at in
          let there = dummy-at vs i found.0 found.1 in
          let known = every-at (IsSorted σ) vs there.0 found.0 sorted there.1 in
          let sort = sort-allowed σ found.0.type _ names known (every-at (IsDummySort σ) (dummies_of vs) i found.0 allowed found.1) in
          let none = every-at DependsOnNothing (dummies_of vs) i found.0 binders.1 found.1 in
          subst (λ x. IsDummy x × MayBeDummySort ss x.sort) (sym found.2)
          ((every-at IsRight vs there.0 found.0 right there.1 there.2, ap (dep_places 0 ps) none ∙ no-deps 0 ps), (sort.0, sort.1, (λ strict. sort.2 (inl strict)), (λ free. sort.2 (inr free))))

  -- a term with this result and form
  pub term-legal : (t : TypeText) (f : Form) → SortIsKnown σ t → IsResult ps t → IsNotPure σ t → All (λ b. IsDummy b × MayBeDummySort ss b.sort) (form_dummies f)
      → EachTree (λ e. HasSort (signatures σ.env) (params ++ form_dummies f) e (sort_number σ t) × ((x : ℕ) → InFV (signatures σ.env) (params ++ form_dummies f) x e → Contains (result_of σ vs t).deps x)) (body_of f)
      → IsLegalDecl σ.env (term_decl (record { signature = signature_of σ vs t; form = f }))
  term-legal t f known is_result not_pure dummies sorted_body =
      (terms_are_sorted σ.env (record { signature = signature_of σ vs t; form = f })).1
      (sorts-there, params-right, dummies, sort-allowed σ t IsPure names known not_pure, result-right t is_result, sorted_body)

-- ---- statements

-- the variables of each statement have sorts that are known, and its dummies are bound
pub statement-sorted : (σ : State) (s : SpecStatement) → Every (SortIsKnown σ) (view s).types → Every (IsSorted σ) (view s).variables
statement-sorted σ (sort_statement m n) all = tt
statement-sorted σ (term_statement h ts t) all =
    let parts = every-front (SortIsKnown σ) (group_types h.groups) (ts ++ t ∷ []) all in
    every-join (IsSorted σ) (variables_of h.groups) (map unnamed ts) (groups-sorted σ h.groups parts.0) (unnamed-sorted σ ts (every-front (SortIsKnown σ) ts (t ∷ []) parts.1).0)
statement-sorted σ (assert_statement k h ps c) all =
    let parts = every-front (SortIsKnown σ) (group_types h.groups) (types_of ps) all in
    every-join (IsSorted σ) (variables_of h.groups) (map unnamed (types_of ps)) (groups-sorted σ h.groups parts.0) (unnamed-sorted σ (types_of ps) parts.1)
statement-sorted σ (definition_statement h t b) all = groups-sorted σ h.groups (every-front (SortIsKnown σ) (group_types h.groups) (t ∷ []) all).0
statement-sorted σ (operator_statement f n c l) all = tt
statement-sorted σ (coercion_statement n from to) all = tt
statement-sorted σ (delimiter_statement left right) all = tt
statement-sorted σ (notation_statement h t ls l tail) all = groups-sorted σ h.groups (every-front (SortIsKnown σ) (group_types h.groups) (t ∷ []) all).0

module _ (σ : State) (place : ℕ) (kept : IsKept σ) where
  module _ (s : SpecStatement) (tokens : List (List MathToken)) (good : AllHold (statement_checks σ place s tokens)) where
    known : Every (SortIsKnown σ) (view s).types
    known = types-known σ (names_of (view s).variables) (view s).types (good-types σ place s tokens good)

    all_sorted : Every (IsSorted σ) (view s).variables
    all_sorted = statement-sorted σ s known

    legal-term : (t : TypeText) (f : Form) → SortIsKnown σ t → IsResult (params_of (view s).variables) t → IsNotPure σ t → All (λ b. IsDummy b × MayBeDummySort (sorts σ.env) b.sort) (form_dummies f)
        → EachTree (λ e. HasSort (signatures σ.env) (param_binders σ (view s).variables ++ form_dummies f) e (sort_number σ t)
        × ((x : ℕ) → InFV (signatures σ.env) (param_binders σ (view s).variables ++ form_dummies f) x e → Contains (result_of σ (view s).variables t).deps x)) (body_of f)
        → IsLegalDecl σ.env (term_decl (record { signature = signature_of σ (view s).variables t; form = f }))
    legal-term = term-legal σ (view s).variables (view s).result kept.sorts all_sorted (good-others σ place s tokens good) (good-binders σ place s tokens good)

  -- ---- terms and definitions

  good-term : (h : Head) (ts : List TypeText) (t : TypeText) (tokens : List (List MathToken)) → AllHold (statement_checks σ place (term_statement h ts t) tokens)
      → IsLegalDecl σ.env (term_decl (record { signature = signature_of σ (view (term_statement h ts t)).variables t; form = plain_form }))
  good-term h ts t tokens good =
      let s = term_statement h ts t in
      let last = every-front (SortIsKnown σ) ts (t ∷ []) (every-front (SortIsKnown σ) (group_types h.groups) (ts ++ t ∷ []) (known s tokens good)).1 in
      legal-term s tokens good t plain_form last.1.0 (good-binders σ place s tokens good).2.0 (good-results σ place s tokens good).0 (All-nil (λ b. IsDummy b × MayBeDummySort (sorts σ.env) b.sort)) tt

  -- a definition's dummies are right, also where it has no body
  pub good-own : (h : Head) (t : TypeText) (b : Option Lexeme) (tokens : List (List MathToken)) → AllHold (statement_checks σ place (definition_statement h t b) tokens)
      → All (λ b. IsDummy b × MayBeDummySort (sorts σ.env) b.sort) (dummy_binders σ (view (definition_statement h t b)).variables)
  good-own h t b tokens good =
      let s = definition_statement h t b in
      dummies-right σ (view s).variables (view s).result kept.sorts (all_sorted s tokens good) (good-others σ place s tokens good) (good-binders σ place s tokens good)
      (groups-right h.groups) (good-dummies σ place s tokens good)

  -- a definition's body is of the result's sort, and its free variables are among the result's
  abbrev pub HasBody : List Variable → TypeText → Option Lexeme → Form → Type 0
  HasBody vs t None f = f ≡ abstract_form
  HasBody vs t (Some l) f = (e : Tree) × IsMeant σ vs (body l t) e × CoversFreeVariables σ vs t e × (f ≡ defined (dummy_binders σ vs) e)

  pub good-definition : (h : Head) (t : TypeText) (b : Option Lexeme) (f : Form) (tokens : List (List MathToken)) → AllHold (statement_checks σ place (definition_statement h t b) tokens)
      → HasBody (view (definition_statement h t b)).variables t b f
      → IsLegalDecl σ.env (term_decl (record { signature = signature_of σ (view (definition_statement h t b)).variables t; form = f }))
  good-definition h t None f tokens good is =
      let s = definition_statement h t None in
      let last = (every-front (SortIsKnown σ) (group_types h.groups) (t ∷ []) (known s tokens good)).1 in
      subst (λ g. IsLegalDecl σ.env (term_decl (record { signature = signature_of σ (view s).variables t; form = g }))) (sym is)
      (legal-term s tokens good t abstract_form last.0 (good-binders σ place s tokens good).2.0 (good-results σ place s tokens good).0 (All-nil (λ b. IsDummy b × MayBeDummySort (sorts σ.env) b.sort)) tt)
  good-definition h t (Some l) f tokens good (e, meant, free, is) =
      let s = definition_statement h t (Some l) in
      let last = (every-front (SortIsKnown σ) (group_types h.groups) (t ∷ []) (known s tokens good)).1 in
      let dummies = good-own h t (Some l) tokens good in
      subst (λ g. IsLegalDecl σ.env (term_decl (record { signature = signature_of σ (view s).variables t; form = g }))) (sym is)
      (legal-term s tokens good t (defined (dummy_binders σ (view s).variables) e) last.0 (good-binders σ place s tokens good).2.0 (good-results σ place s tokens good).0 dummies
      ((body-sorted (reader_of σ (view s).variables) kept.coercions (sort_number σ t) _ e meant, free), tt))

  -- ---- axioms and theorems

  module _ (vs : List Variable) (plain : dummies_of vs ≡ []) where
    no-dummies : (scope_of σ vs).binders ≡ param_binders σ vs
    no-dummies = ap (λ ds. param_binders σ vs ++ map (binder_of σ (params_of vs)) ds) plain ∙ append-nil (param_binders σ vs)

    claim-provable : (l : Lexeme) (e : Tree) → IsMeant σ vs (claim l) e → HasProvable σ.env (param_binders σ vs) e
    claim-provable l e meant = subst (λ ctx. HasProvable σ.env ctx e) no-dummies (claim-sorted (reader_of σ vs) kept.coercions _ e meant)

    abbrev Each : Trees → Type 0
    Each es = AreProvable σ.env (param_binders σ vs) es

    each-more : (e : Tree) (es : Trees) → HasProvable σ.env (param_binders σ vs) e → Each es → Each (more e es)
    each-more e es has all zero x at = let same : e ≡ x = cc in subst (HasProvable σ.env (param_binders σ vs)) same has
    each-more e es has all (suc i) x at = all i x at

    each-followed : (es fs : Trees) → Each es → Each fs → Each (followed_by es fs)
    each-followed none fs a b = b
    each-followed (more e es) fs a b = each-more e (followed_by es fs) (a zero e refl) (each-followed es fs (λ j y here. a (suc j) y here) b)

    each-copies : (n : ℕ) (e : Tree) → HasProvable σ.env (param_binders σ vs) e → Each (copies n e)
    each-copies zero e has = λ i x at. absurd cc
    each-copies (suc n) e has = each-more e (copies n e) has (each-copies n e has)

    hyps-provable : (hs : List Stated) (es : Trees) → AreHyps σ vs hs es → Each es
    hyps-provable [] es are = subst Each (sym are) (λ i x at. absurd cc)
    hyps-provable (h ∷ hs) es (e, rest, meant, are, same) =
        subst Each (sym same) (each-followed (copies h.times e) rest (each-copies h.times e (claim-provable h.math e meant)) (hyps-provable hs rest are))

  pub good-assertion : (k : AssertKind) (h : Head) (ps : List Source) (c : Lexeme) (d : Declaration) (tokens : List (List MathToken)) → IsWritten (assert_statement k h ps c)
      → AllHold (statement_checks σ place (assert_statement k h ps c) tokens) → Declares σ (assert_statement k h ps c) d → IsLegalDecl σ.env d
  good-assertion k h ps c d tokens spelled good (hyps, e, are, meant, same) =
      let s = assert_statement k h ps c in
      let vs = (view s).variables in
      let plain = plain-written k h ps c spelled in
      let others = good-others σ place s tokens good in
      let binders = good-binders σ place s tokens good in
      subst (IsLegalDecl σ.env) (sym same)
      ((assertions_are_sorted σ.env (record { is_axiom = is_axiom k; params = param_binders σ vs; hyps = hyps; conclusion = e })).1 (
        sorts-there σ vs (view s).result kept.sorts (all_sorted s tokens good) others binders,
        params-right σ vs (view s).result kept.sorts (all_sorted s tokens good) others binders,
        hyps-provable vs plain (stated_of h.groups ps) hyps are,
        claim-provable vs plain c e meant,
      ))

  -- ---- all of them

  -- the body that a good definition declares
  body-has : (h : Head) (t : TypeText) (b : Option Lexeme) (f : Form) (tokens : List (List MathToken)) → AllHold (statement_checks σ place (definition_statement h t b) tokens)
      → IsTable σ.table → AreVariables (scope_of σ (view (definition_statement h t b)).variables).names
      → IsForm σ (view (definition_statement h t b)).variables t b f → HasBody (view (definition_statement h t b)).variables t b f
  body-has h t None f tokens good table names is = is
  body-has h t (Some l) f tokens good table names (e, meant, is) =
      let s = definition_statement h t (Some l) in
      let free = (good-free σ place s tokens good).0 in
      let same = one-meaning (reader_of σ (view s).variables) (of_sort (sort_number σ t)) _ table names free.0 e free.1 meant in
      (e, meant, subst (CoversFreeVariables σ (view s).variables t) same free.2, is)

  pub legal-written : (s : SpecStatement) (d : Declaration) (tokens : List (List MathToken)) → IsWritten s → AllHold (statement_checks σ place s tokens) → Declares σ s d → IsLegalDecl σ.env d
  legal-written (sort_statement m n) d tokens spelled good is = subst (IsLegalDecl σ.env) (sym is) (tt, (tt, (tt, (tt, (tt, (tt, (tt, (tt, tt))))))))
  legal-written (term_statement h ts t) d tokens spelled good is = subst (IsLegalDecl σ.env) (sym is) (good-term h ts t tokens good)
  legal-written (assert_statement k h ps c) d tokens spelled good is = good-assertion k h ps c d tokens spelled good is
  legal-written (definition_statement h t b) d tokens spelled good (f, is_form, is) =
      let s = definition_statement h t b in
      subst (IsLegalDecl σ.env) (sym is)
      (good-definition h t b f tokens good (body-has h t b f tokens good kept.table (split-variables (view s).variables (good-others σ place s tokens good) (variables-written s spelled)) is_form))
  legal-written (operator_statement f n c l) d tokens spelled good is = absurd is
  legal-written (coercion_statement n from to) d tokens spelled good is = absurd is
  legal-written (delimiter_statement left right) d tokens spelled good is = absurd is
  legal-written (notation_statement h t ls l tail) d tokens spelled good is = absurd is

  -- the same of lexemes of a text
  pub declared-legal : (s : SpecStatement) (d : Declaration) (tokens : List (List MathToken)) → IsSpelled s → AllHold (statement_checks σ place s tokens) → Declares σ s d → IsLegalDecl σ.env d
  declared-legal s d tokens spelled good is = legal-written s d tokens (spelled-written s spelled) good is
