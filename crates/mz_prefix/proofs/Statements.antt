-- A statement that is printed is good, and declares what it was printed from.
use Rattle.std.proofs.Common.{◌≡◌, ◌∙◌, ◌<◌, ◌≤◌, ◌+◌, ◌++◌, ℕ, List, [], ◌∷◌, length, map, true, false, ap, ap₂, sym, refl, subst, inl, inr, arith, get_or, length-append}
use Rattle.std.specs.Prelude.{⊤, slice_get, All, Contains, unwrap_or}
use Rattle.std.specs.List.Sorted.{IsStrictlyIncreasing}
use Rattle.std.proofs.lemmas.Option.{slice_get_within, slice_get-get_or, get_or_from_slice_get}
use Rattle.std.proofs.lemmas.Bool.{cases_Bool}
use Rattle.mz_base.specs.Checks.{AllHold, nothing, each_in_order, ◌>>◌}
use Rattle.mz_base.proofs.Offered.{all_hold-both}
use Rattle.mz_lex.specs.Lexemes.{Lexeme}
use Rattle.mz_logic_theory.specs.Tree.{Tree, Trees, none, more}
use Rattle.mz_logic_theory.specs.Signature.{Signature}
use Rattle.mz_logic_theory.specs.Declaration.{sorts, signatures, DepsAscend}
use Rattle.mz_logic_theory.specs.Sorts.{HasSort}
use Rattle.mz_math_theory.specs.declared.wanted.Wanted.TheVariants.{Provable as provable, Sort as of_sort}
use Rattle.mz_math_theory.specs.Formula.{IsFormula}
use Rattle.mz_lex.specs.Kinds.{inside_of}
use Rattle.mz_logic_theory.specs.Modifiers.{MayBeResultSort, MayBeDummySort}
use Rattle.mz_logic_theory.specs.Variables.{IsBoundAt, InFV}
use Rattle.mz_logic_theory.specs.Legality.{IsClaim, AreBindersThere, AreParams, IsDummy, sort_of, InRange, HasOperandSorts, HasBoundOperands}
use Rattle.mz_logic_theory.specs.declared.binder.Binder.{Binder}
use Rattle.mz_logic_theory.specs.declared.binder.ResultType.{ResultType}
use Rattle.mz_logic_theory.specs.declared.binder.SortMods.{SortMods}
use Rattle.mz_logic_theory.proofs.Offered.{sort_by_rules}
use Rattle.mz_lex.specs.declared.tokens.MathToken.{MathToken}
use Rattle.mz_spec_theory.specs.Statement.{TypeText}
use Rattle.mz_prefix.specs.Tokens.{lexeme_at, stop}
use Rattle.mz_prefix.specs.Lines.{PlainBinder, Tokens, math_word, math_text, hyp_words, binders_at, type_at, hyps_at}
use Rattle.mz_base.specs.Names.{IsKnown}
use Rattle.mz_spec_theory.specs.View.{Named as NamedIn, Variable, Formula, claim, body, variables_of, types_of, group_types, group_stated, premise_stated, stated_claim, params_of, dummies_of, names_of}
use Rattle.mz_spec_theory.specs.State.{State, param_binders, dummy_binders, signature_of, reader_of, sort_number}
use Rattle.mz_spec_theory.specs.Formulas.{IsMeant, AreHyps, AreTokens, strings_checks, free_checks, CoversFreeVariables}
use Rattle.mz_spec_theory.specs.Rules.{is_new, are_others, type_checks, binder_rules, body_rules, HaveBinders, IsResult, IsDummySort, IsNotPure, AreBinders}
use Rattle.mz_spec_theory.specs.Dependencies.{Every}
use Rattle.mz_spec_theory.proofs.Offered.{free-none}
use Rattle.mz_prefix.specs.NamedDeclarations.{Vocabulary, HasVariables, formula_of, formulas_of, plain_type, plain_binders}
use Rattle.mz_prefix.specs.Prefix.{IsShort}
use Rattle.mz_prefix.proofs.Shown.{AreShown, AllShown, typed-at, binders-shown, params-shown, dummies-apart, names_from, names-join, bytes-are, all-names}
use Rattle.mz_prefix.proofs.Places.{below-all}
use Rattle.mz_prefix.proofs.Binding.{Have, all-others, known-variable, sort-found, type-holds, types-hold, not-pure, dummies-hold, are-binders, result-among, deps-are, binders-same}
use Rattle.mz_prefix.proofs.ReadFormulas.{IsBehind, IsOver, formula-meant, AllMeant, strung}
use Rattle.mz_prefix.proofs.Legal.{bound-there, params-there}

-- ---- what is asked of a statement, by what the rules see of it

abbrev pub GoodBy : State → ℕ → List NamedIn → List Variable → List TypeText → List TypeText → List Formula → Type 0
GoodBy σ place names vs types results fs = (tokens : List (List MathToken)) × AreTokens σ fs tokens
    × AllHold (nothing >> (each_in_order (is_new σ) names >> are_others [] vs) >> (nothing >> each_in_order (type_checks σ (names_of vs)) types)
    >> binder_rules σ place vs results >> body_rules σ place vs fs tokens >> nothing)

pub good-by : (σ : State) (place : ℕ) (names : List NamedIn) (vs : List Variable) (types results : List TypeText) (fs : List Formula)
    → AllHold (each_in_order (is_new σ) names) → AllHold (are_others [] vs) → AllHold (each_in_order (type_checks σ (names_of vs)) types)
    → HaveBinders σ vs results → Every (IsDummySort σ) (dummies_of vs) → Every (IsNotPure σ) results
    → AllMeant σ vs fs → AllHold (each_in_order (free_checks σ place vs) fs) → GoodBy σ place names vs types results fs
good-by σ place names vs types results fs new others typed binders dummies pure meant free =
    let (tokens, are, strings) = strung σ vs fs meant in
    let bodies : AllHold (body_rules σ place vs fs tokens >> nothing) = all_hold-both (body_rules σ place vs fs tokens) nothing (all_hold-both (strings_checks σ vs fs tokens) _ strings free) tt in (
      tokens,
      are,
      all_hold-both (each_in_order (is_new σ) names >> are_others [] vs) _ (all_hold-both (each_in_order (is_new σ) names) _ new others)
          (all_hold-both (each_in_order (type_checks σ (names_of vs)) types) _ typed (binders, (dummies, (pure, bodies)))),
    )

-- ---- the parts of what is printed

pub no-stated : (bs : List PlainBinder) (p : ℕ) → group_stated (binders_at p bs) ≡ []
no-stated [] p = refl
no-stated (b ∷ bs) p = no-stated bs _

pub no-types : (hs : List Tokens) (p : ℕ) → types_of (hyps_at p hs) ≡ []
no-types [] p = refl
no-types (h ∷ hs) p = no-types hs (stop p (hyp_words h))

-- a list of binders, shown as variables: parameters, then dummies
module _ (v : Vocabulary) (n : ℕ) (variables : HasVariables v n) (σ : State) (behind : IsBehind v n σ)
    (ps ds : List Binder) (few : length ps + length ds ≤ n) (there : AreBindersThere (sorts σ.env) (length (ps ++ ds)) ps) (also : AreBindersThere (sorts σ.env) (length (ps ++ ds)) ds)
    (params : AreParams (sorts σ.env) ps) (dummies : All IsDummy ds) (may : All (λ b. MayBeDummySort (sorts σ.env) b.sort) ds) (up : DepsAscend ps) (q : ℕ) where
  abbrev pub shown_vs : List Variable
  shown_vs = variables_of (binders_at q (plain_binders v 0 ps ds))

  shown : AllShown v 0 ps ds shown_vs
  shown = binders-shown v n variables.names ps ds 0 q (omega arith) (λ i d at. let less = slice_get_within ds i d at in let P : Binder → Type 0 = IsDummy in subst P (get_or_from_slice_get ds i d d at) (dummies i d less))

  whole : AreShown v false 0 ps (params_of shown_vs)
  whole = params-shown v ps ds shown_vs 0 shown

  few-params : length ps ≤ n
  few-params = omega arith

  pub params-same : param_binders σ shown_vs ≡ ps
  params-same = binders-same v σ behind.sort_number n variables ps (params_of shown_vs) few-params whole ps (params_of shown_vs) 0 false whole (params-there (sorts σ.env) (length (ps ++ ds)) ps there params) up

  pub dummies-same : dummy_binders σ shown_vs ≡ ds
  dummies-same =
      binders-same v σ behind.sort_number n variables ps (params_of shown_vs) few-params whole ds (dummies_of shown_vs) (0 + length ps) true (dummies-apart v ps ds shown_vs 0 shown)
      (λ k d less. ((also k d less).0, (let P : List ℕ → Type 0 = λ js. All (λ j. j < length ps) js in subst P (sym (dummies k d less).1) (λ i e lt. absurd (omega arith)))))
      (λ k d less. let P : List ℕ → Type 0 = IsStrictlyIncreasing in subst P (sym (dummies k d less).1) (λ i lt. absurd (omega arith)))

  pub over : IsOver v n variables σ behind shown_vs (ps ++ ds)
  over = record {
    names = ap₂ ◌++◌ (bytes-are v false ps (params_of shown_vs) 0 whole) (bytes-are v true ds (dummies_of shown_vs) (0 + length ps) (dummies-apart v ps ds shown_vs 0 shown))
        ∙ names-join v (length ps) (length ds) 0 ∙ ap (names_from v 0) (sym (length-append ps ds));
    binders = ap₂ ◌++◌ params-same dummies-same;
  }

  pub few-all : length (ps ++ ds) ≤ n
  few-all = omega (arith, length-append ps ds)

  pub others : AllHold (are_others [] shown_vs)
  others = all-others v n variables ps ds shown_vs 0 [] (omega arith) shown (λ y le less. refl)

  known : (j : ℕ) → j < length (ps ++ ds) → IsKnown (names_of shown_vs) (v.variable j)
  known j less =
      let P : List (List ℕ) → Type 0 = λ ns. IsKnown ns (v.variable j) in
      subst P (sym (all-names v ps ds shown_vs 0 shown)) (known-variable v (length ps + length ds) 0 j j (omega (arith, length-append ps ds)) (omega arith))

  pub types : (ts : List TypeText) → AllHold (each_in_order (type_checks σ (names_of shown_vs)) ts)
      → AllHold (each_in_order (type_checks σ (names_of shown_vs)) (group_types (binders_at q (plain_binders v 0 ps ds)) ++ ts))
  types ts rest = types-hold v σ behind.sort_number (names_of shown_vs) (length (ps ++ ds)) known ts rest ps ds 0 q there also

  pub result-type : (s : ℕ) (deps : List ℕ) (r : ℕ) → s < length (sorts σ.env) → All (λ j. j < length (ps ++ ds)) deps → AllHold (each_in_order (type_checks σ (names_of shown_vs)) (type_at r (plain_type v s deps) ∷ []))
  result-type s deps r less below =
      all_hold-both (type_checks σ (names_of shown_vs) (type_at r (plain_type v s deps))) nothing
      (type-holds v σ behind.sort_number (names_of shown_vs) (length (ps ++ ds)) known s deps (type_at r (plain_type v s deps)) (typed-at v s deps r) less (below-all (length (ps ++ ds)) deps below)) tt

  bound : AreBinders σ [] (params_of shown_vs) × Have v σ behind.sort_number ps ([] ++ params_of shown_vs) (0 + length ps)
  bound = are-binders v σ behind.sort_number ps params ps (params_of shown_vs) [] 0 whole (λ k c at. let same : 0 + k ≡ k = omega arith in ap (slice_get ps) same ∙ at) (λ j c less. absurd (omega arith))

  no-strict : Every (IsDummySort σ) (dummies_of shown_vs)
  no-strict = (dummies-hold v σ behind.sort_number ds (dummies_of shown_vs) (0 + length ps) (dummies-apart v ps ds shown_vs 0 shown) dummies may).1

  pub have-binders : (results : List TypeText) → Every (IsResult (params_of shown_vs)) results → HaveBinders σ shown_vs results
  have-binders results are = (bound.0, (dummies-hold v σ behind.sort_number ds (dummies_of shown_vs) (0 + length ps) (dummies-apart v ps ds shown_vs 0 shown) dummies may).0, are)

  pub result-is : (s : ℕ) (deps : List ℕ) (r : ℕ) → All (λ j. IsBoundAt ps j) deps → IsResult (params_of shown_vs) (type_at r (plain_type v s deps))
  result-is s deps r are =
      let P : ℕ → Type 0 = λ m. Have v σ behind.sort_number ps (params_of shown_vs) m in
      let place : 0 + length ps ≡ length ps = omega arith in
      result-among v σ behind.sort_number ps (params_of shown_vs) (subst P place bound.1) deps _ (typed-at v s deps r).1 are

  make-result : ℕ → List ℕ → ResultType
  make-result s deps = record { sort = s; deps = deps }

  make-signature : List Binder → ResultType → Signature
  make-signature bs r = record { params = bs; result = r }

  pub signature-same : (r : ResultType) (p : ℕ) → r.sort < length (sorts σ.env) → All (λ j. IsBoundAt ps j) r.deps → IsStrictlyIncreasing r.deps
      → signature_of σ shown_vs (type_at p (plain_type v r.sort r.deps)) ≡ record { params = ps; result = r }
  unfolding make-result make-signature
  signature-same r p less are rising =
      ap₂ make-signature params-same
      (ap₂ make-result (ap (λ o. unwrap_or o 0) (sort-found v σ behind.sort_number r.sort r.deps (type_at p (plain_type v r.sort r.deps)) (typed-at v r.sort r.deps p) less))
      (deps-are v σ behind.sort_number n variables ps (params_of shown_vs) few-params whole r.deps _ (typed-at v r.sort r.deps p).1 rising (λ k d lt. bound-there ps (get_or r.deps k d) (are k d lt))))

  sorted : (e : Tree) → InRange (signatures σ.env) (length (ps ++ ds)) e → HasOperandSorts (signatures σ.env) (ps ++ ds) e → HasBoundOperands (signatures σ.env) (ps ++ ds) e
      → HasSort (signatures σ.env) (ps ++ ds) e (sort_of (signatures σ.env) (ps ++ ds) e)
  sorted e range fits bounds = sort_by_rules (signatures σ.env) (ps ++ ds) e range fits bounds

  pub meant-claim : (e : Tree) (l : Lexeme) → l.text ≡ math_text (formula_of v e) → InRange (signatures σ.env) (length (ps ++ ds)) e → HasOperandSorts (signatures σ.env) (ps ++ ds) e → HasBoundOperands (signatures σ.env) (ps ++ ds) e
      → IsClaim σ.env (ps ++ ds) e → IsShort (formula_of v e) e → IsMeant σ shown_vs (claim l) e
  meant-claim e l text range fits bounds is short =
      let P : List ℕ → Type 0 = λ t. IsFormula (reader_of σ shown_vs) provable (inside_of t) e in
      subst P (sym text) (formula-meant v n variables σ behind shown_vs (ps ++ ds) over few-all provable e (sort_of (signatures σ.env) (ps ++ ds) e) (sorted e range fits bounds) is short)

  pub meant-body : (e : Tree) (l : Lexeme) (s : ℕ) (deps : List ℕ) (r : ℕ) → l.text ≡ math_text (formula_of v e) → s < length (sorts σ.env)
      → InRange (signatures σ.env) (length (ps ++ ds)) e → HasOperandSorts (signatures σ.env) (ps ++ ds) e → HasBoundOperands (signatures σ.env) (ps ++ ds) e
      → sort_of (signatures σ.env) (ps ++ ds) e ≡ s → IsShort (formula_of v e) e → IsMeant σ shown_vs (body l (type_at r (plain_type v s deps))) e
  meant-body e l s deps r text less range fits bounds is short =
      let t : TypeText = type_at r (plain_type v s deps) in
      let P : List ℕ → Type 0 = λ t'. IsFormula (reader_of σ shown_vs) (of_sort (sort_number σ t)) (inside_of t') e in
      let goal : s ≡ sort_number σ t = sym (ap (λ o. unwrap_or o 0) (sort-found v σ behind.sort_number s deps t (typed-at v s deps r) less)) in
      subst P (sym text) (formula-meant v n variables σ behind shown_vs (ps ++ ds) over few-all (of_sort (sort_number σ t)) e (sort_of (signatures σ.env) (ps ++ ds) e) (sorted e range fits bounds) (is ∙ goal) short)

  pub covered : (r : ResultType) (p : ℕ) (e : Tree) → All (λ j. IsBoundAt ps j) r.deps → IsStrictlyIncreasing r.deps
      → ((x : ℕ) → InFV (signatures σ.env) (ps ++ ds) x e → Contains r.deps x) → CoversFreeVariables σ shown_vs (type_at p (plain_type v r.sort r.deps)) e
  covered r p e are rising free x is =
      let P : List Binder → Type 0 = λ bs. InFV (signatures σ.env) bs x e in
      let Q : List ℕ → Type 0 = λ js. Contains js x in
      subst Q (sym (deps-are v σ behind.sort_number n variables ps (params_of shown_vs) few-params whole r.deps _ (typed-at v r.sort r.deps p).1 rising (λ k d lt. bound-there ps (get_or r.deps k d) (are k d lt))))
      (free x (subst P over.binders is))

  -- ---- hypotheses

  abbrev pub AreRight : Trees → Type 0
  AreRight none = ⊤
  AreRight (more e es) = InRange (signatures σ.env) (length (ps ++ ds)) e × HasOperandSorts (signatures σ.env) (ps ++ ds) e × HasBoundOperands (signatures σ.env) (ps ++ ds) e
      × IsClaim σ.env (ps ++ ds) e × IsShort (formula_of v e) e × AreRight es

  pub hyps-meant : (es : Trees) (p : ℕ) → AreRight es → AreHyps σ shown_vs (premise_stated (hyps_at p (formulas_of v es))) es
  hyps-meant none p right = refl
  hyps-meant (more e es) p (range, fits, bounds, is, short, right) =
      (e, es, meant-claim e (lexeme_at p (math_word (formula_of v e))) refl range fits bounds is short, hyps-meant es (stop p (hyp_words (formula_of v e))) right, refl)

  pub all-meant : (es : Trees) (p : ℕ) (rest : List Formula) → AreRight es → AllMeant σ shown_vs rest → AllMeant σ shown_vs (map stated_claim (premise_stated (hyps_at p (formulas_of v es))) ++ rest)
  all-meant none p rest right meant = meant
  all-meant (more e es) p rest (range, fits, bounds, is, short, right) meant =
      ((e, meant-claim e (lexeme_at p (math_word (formula_of v e))) refl range fits bounds is short), all-meant es (stop p (hyp_words (formula_of v e))) rest right meant)

  -- ---- the statements

  pub good-typed : (place : ℕ) (names : List NamedIn) (r : ResultType) (c : ℕ) (fs : List Formula) → AllHold (each_in_order (is_new σ) names) → MayBeResultSort (sorts σ.env) r.sort
      → All (λ j. j < length (ps ++ ds)) r.deps → All (λ j. IsBoundAt ps j) r.deps → AllMeant σ shown_vs fs → AllHold (each_in_order (free_checks σ place shown_vs) fs)
      → GoodBy σ place names shown_vs (group_types (binders_at q (plain_binders v 0 ps ds)) ++ type_at c (plain_type v r.sort r.deps) ∷ []) (type_at c (plain_type v r.sort r.deps) ∷ []) fs
  good-typed place names r c fs new pure below are meant free =
      let t : TypeText = type_at c (plain_type v r.sort r.deps) in
      let (m, at, _) = pure in
      good-by σ place names shown_vs _ (t ∷ []) fs new others (types (t ∷ []) (result-type r.sort r.deps c (slice_get_within (sorts σ.env) r.sort m at) below))
      (have-binders (t ∷ []) (result-is r.sort r.deps c are, tt)) no-strict (not-pure v σ behind.sort_number r.sort r.deps t (typed-at v r.sort r.deps c) pure, tt) meant free

  pub good-claims : (place : ℕ) (names : List NamedIn) (es : Trees) (e : Tree) (p : ℕ) (l : Lexeme) → AllHold (each_in_order (is_new σ) names) → AreRight (more e es) → l.text ≡ math_text (formula_of v e)
      → GoodBy σ place names shown_vs (group_types (binders_at q (plain_binders v 0 ps ds)) ++ []) [] (map stated_claim (premise_stated (hyps_at p (formulas_of v es))) ++ claim l ∷ [])
  good-claims place names es e p l new (range, fits, bounds, is, short, right) text =
      good-by σ place names shown_vs _ [] _ new others (types [] tt) (have-binders [] tt) no-strict tt
      (all-meant es p (claim l ∷ []) right ((e, meant-claim e l text range fits bounds is short), tt)) (free-none σ place shown_vs (premise_stated (hyps_at p (formulas_of v es))) l)
