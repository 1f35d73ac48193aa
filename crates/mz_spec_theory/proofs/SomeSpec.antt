-- Each text has a reading or a first fault.
use Rattle.std.proofs.Common.{◌≡◌, ◌⊎◌, ◌++◌, ◌+◌, ◌≤◌, ℕ, zero, suc, List, [], ◌∷◌, length, map, Option, Some, None, sym, refl, subst, inl, inr, Contains, arith, length-append}
use Rattle.mz_base.proofs.Offered.{Decided, all_hold-or_fails, all_hold-excludes, all_hold-both, all_hold-first, all_hold-rest, fails-before, fails-after, are_decided-rows, retold-fails}
use Rattle.mz_lex.specs.declared.token.LexFault.{LexFault}
use Rattle.mz_lex.specs.Lexemes.{Lexeme, LexesFrom}
use Rattle.mz_lex.proofs.Offered.{some-lexing, math_tokens-one}
use Rattle.mz_logic_theory.specs.Tree.{Tree, Trees, none, followed_by}
use Rattle.mz_logic_theory.specs.Declaration.{sort_decl, term_decl, assertion_decl, plain_form, abstract_form, defined, signatures}
use Rattle.mz_logic_theory.specs.Variables.{InFV}
use Rattle.mz_base.specs.Checks.{Checks, each_in_order, ◌>>◌, AllHold, FailsFirst, AreDecided}
use Rattle.mz_lex.specs.declared.tokens.MathToken.{MathToken}
use Rattle.mz_lex.specs.MathTokens.{MathTokens}
use Rattle.mz_math_theory.specs.Notation.{with_notation, with_coercion, with_delimiters}
use Rattle.mz_math_theory.specs.Formula.{Misreading, IsFormula, Misreads, formula_checks}
use Rattle.mz_math_theory.specs.Kept.{AreVariables}
use Rattle.mz_math_theory.proofs.Offered.{some-reading, one-meaning, one-reading as one-string}
use Rattle.mz_spec_theory.specs.declared.refusal.Fault.{Fault}
use Rattle.mz_spec_theory.specs.Statement.{TypeText, SpecStatement, sort_statement, term_statement, assert_statement, definition_statement, operator_statement, coercion_statement, delimiter_statement, notation_statement, Spells}
use Rattle.mz_spec_theory.specs.Stops.{Stops}
use Rattle.mz_spec_theory.specs.GrammarLaws.{Begins}
use Rattle.mz_spec_theory.specs.Reading.{place_of_first}
use Rattle.mz_spec_theory.proofs.Grammar.{no-empty}
use Rattle.mz_spec_theory.proofs.Stopping.{one-of-all}
use Rattle.mz_spec_theory.specs.declared.spec_refusal.SpecRefusal.{SpecRefusal}
use Rattle.mz_spec_theory.specs.View.{Variable, Formula, claim, body, Stated, stated_claim, stated_of, view}
use Rattle.mz_spec_theory.specs.State.{State, Entry, nothing as no_state, with_sort, with_term, with_assertion, with_table, entries_of, param_binders, dummy_binders, signature_of, scope_of, reader_of, result_of}
use Rattle.mz_spec_theory.specs.Formulas.{IsMeant, AreHyps, AreTokens, copies, inner, math_of, wanted_of, told, string_checks, strings_checks, free_checks}
use Rattle.mz_spec_theory.specs.Forms.{form_checks, coercion_of}
use Rattle.mz_spec_theory.specs.Dependencies.{Every}
use Rattle.mz_spec_theory.specs.Rules.{is_level, name_rules, use_rules, binder_rules, body_rules, are_others, is_new, statement_checks}
use Rattle.mz_spec_theory.specs.Declaring.{sort_bits, is_axiom, After}
use Rattle.mz_spec_theory.specs.Kept.{IsKept}
use Rattle.mz_spec_theory.specs.Spec.{Stand, SpecMakes, SpecFault, IsGood, Fails}
use Rattle.mz_spec_theory.specs.Laws.{OneOfBoth}
use Rattle.mz_spec_theory.proofs.Naming.{IsOfKind, IsWritten, variables-written}
use Rattle.mz_spec_theory.proofs.Places.{split-variables}
use Rattle.mz_spec_theory.proofs.Good.{good-others, good-strings, good-form}
use Rattle.mz_spec_theory.proofs.Tokens.{formulas-tokens}
use Rattle.mz_spec_theory.proofs.Keeping.{kept-written, kept-nothing}
use Rattle.mz_spec_theory.proofs.FreeDecided.{free-decided}
use Rattle.mz_spec_theory.proofs.RulesDecided.{levels-decided, names-decided, uses-decided, parts-decided}
use Rattle.mz_spec_theory.proofs.FormsDecided.{Judged, retold-judged, form-judged}
use Rattle.mz_spec_theory.proofs.OneSpec.{IsThere, lexes-kinds, kinds-split}

-- ---- checks one after the other

judged-both : {R : Type 0} (bs cs : Checks R) → Judged bs → (AllHold bs → Judged cs) → Judged (bs >> cs)
judged-both bs cs (inr (f, fails)) more = inr (f, fails-before bs cs f fails)
judged-both bs cs (inl all) more = go (more all)
  where
    go : Judged cs → Judged (bs >> cs)
    go (inl rest) = inl (all_hold-both bs cs all rest)
    go (inr (f, fails)) = inr (f, fails-after bs cs f all fails)

-- ---- formulas

module _ (σ : State) (kept : IsKept σ) (vs : List Variable) (vars : AreVariables (scope_of σ vs).names) where
  string-judged : (f : Formula) (ps : List MathToken) → MathTokens σ.table.delimiters (inner (math_of f)) ps → Judged (string_checks σ vs f ps)
  string-judged f ps cut = retold-judged (told (math_of f)) (formula_checks (reader_of σ vs) (wanted_of σ f) (inner (math_of f)) ps) (go (some-reading (reader_of σ vs) (wanted_of σ f) (inner (math_of f)) kept.table vars))
    where
      go : ((e : Tree) × IsFormula (reader_of σ vs) (wanted_of σ f) (inner (math_of f)) e) ⊎ ((m : Misreading) × Misreads (reader_of σ vs) (wanted_of σ f) (inner (math_of f)) m)
          → Judged (formula_checks (reader_of σ vs) (wanted_of σ f) (inner (math_of f)) ps)
      go (inl (e, (qs, other, all, means))) =
          inl (subst (λ (xs : List MathToken). AllHold (formula_checks (reader_of σ vs) (wanted_of σ f) (inner (math_of f)) xs)) (math_tokens-one σ.table.delimiters (inner (math_of f)) 0 qs ps other cut) all)
      go (inr (m, (qs, other, fails))) =
          inr (m, subst (λ (xs : List MathToken). FailsFirst (formula_checks (reader_of σ vs) (wanted_of σ f) (inner (math_of f)) xs) m) (math_tokens-one σ.table.delimiters (inner (math_of f)) 0 qs ps other cut) fails)

  strings-judged : (fs : List Formula) (pss : List (List MathToken)) → AreTokens σ fs pss → Judged (strings_checks σ vs fs pss)
  strings-judged [] pss are = inl tt
  strings-judged (f ∷ fs) [] are = absurd are
  strings-judged (f ∷ fs) (ps ∷ pss) (cut, are) = judged-both (string_checks σ vs f ps) (strings_checks σ vs fs pss) (string-judged f ps cut) (λ _. strings-judged fs pss are)

  -- a result depends on each free variable of an expression
  abbrev Covers : TypeText → Tree → Type 0
  Covers t e = (x : ℕ) → InFV (signatures σ.env) (scope_of σ vs).binders x e → Contains (result_of σ vs t).deps x

  -- a body stands for one expression, and whether the result covers it is decided
  body-decided : (l : Lexeme) (t : TypeText) → Decided ((e : Tree) × IsMeant σ vs (body l t) e × Covers t e)
  body-decided l t = go (some-reading (reader_of σ vs) (wanted_of σ (body l t)) (inner l) kept.table vars)
    where
      free : (e : Tree) → IsMeant σ vs (body l t) e → Decided (Covers t e) → Decided ((d : Tree) × IsMeant σ vs (body l t) d × Covers t d)
      free e meant (inl has) = inl (e, meant, has)
      free e meant (inr out) = inr (λ h. out (subst (Covers t) (one-meaning (reader_of σ vs) (wanted_of σ (body l t)) (inner l) kept.table vars h.0 e h.1 meant) h.2))

      go : ((e : Tree) × IsFormula (reader_of σ vs) (wanted_of σ (body l t)) (inner l) e) ⊎ ((m : Misreading) × Misreads (reader_of σ vs) (wanted_of σ (body l t)) (inner l) m)
          → Decided ((e : Tree) × IsMeant σ vs (body l t) e × Covers t e)
      go (inl (e, meant)) = free e meant (free-decided (signatures σ.env) (scope_of σ vs).binders e (result_of σ vs t).deps)
      go (inr (m, misreads)) = inr (λ h. one-string (reader_of σ vs) (wanted_of σ (body l t)) (inner l) h.0 m h.1 misreads)

  frees-decided : (place : ℕ) (f : Formula) → AreDecided (free_checks σ place vs f)
  frees-decided place (claim l) = tt
  frees-decided place (body l t) = (body-decided l t, λ _. tt)

  bodies-judged : (place : ℕ) (fs : List Formula) (pss : List (List MathToken)) → AreTokens σ fs pss → Judged (body_rules σ place vs fs pss)
  bodies-judged place fs pss are =
      judged-both (strings_checks σ vs fs pss) (each_in_order (free_checks σ place vs) fs) (strings-judged fs pss are)
      (λ _. all_hold-or_fails (each_in_order (free_checks σ place vs) fs) (are_decided-rows (free_checks σ place vs) (frees-decided place) fs))

-- ---- statements

module _ (σ : State) (kept : IsKept σ) (place : ℕ) (s : SpecStatement) (written : IsWritten s) (tokens : List (List MathToken)) (are : AreTokens σ (view s).formulas tokens) where
  named : AllHold (name_rules σ (view s)) → AreVariables (scope_of σ (view s).variables).names
  named all = split-variables (view s).variables (all_hold-rest (each_in_order (is_new σ) (view s).declares) (are_others [] (view s).variables) all) (variables-written s written)

  abbrev Last : Checks Fault
  Last = body_rules σ place (view s).variables (view s).formulas tokens >> form_checks σ place s

  abbrev Third : Checks Fault
  Third = binder_rules σ place (view s).variables (view s).result >> Last

  abbrev Second : Checks Fault
  Second = use_rules σ (view s) >> Third

  last-judged : AreVariables (scope_of σ (view s).variables).names → Judged Last
  last-judged vars =
      judged-both (body_rules σ place (view s).variables (view s).formulas tokens) (form_checks σ place s) (bodies-judged σ kept (view s).variables vars place (view s).formulas tokens are) (λ _. form-judged σ kept place s)

  third-judged : AreVariables (scope_of σ (view s).variables).names → Judged Third
  third-judged vars =
      judged-both (binder_rules σ place (view s).variables (view s).result) Last (all_hold-or_fails (binder_rules σ place (view s).variables (view s).result) (parts-decided σ place (view s).variables (view s).result))
      (λ _. last-judged vars)

  second-judged : AreVariables (scope_of σ (view s).variables).names → Judged Second
  second-judged vars = judged-both (use_rules σ (view s)) Third (all_hold-or_fails (use_rules σ (view s)) (uses-decided σ (view s))) (λ _. third-judged vars)

  checks-judged : Judged (statement_checks σ place s tokens)
  checks-judged =
      judged-both (each_in_order is_level (view s).levels) (name_rules σ (view s) >> Second) (all_hold-or_fails (each_in_order is_level (view s).levels) (levels-decided (view s).levels))
      (λ _. judged-both (name_rules σ (view s)) Second (all_hold-or_fails (name_rules σ (view s)) (names-decided σ (view s))) (λ all. second-judged (named all)))

statement-judged : (σ : State) (place : ℕ) (s : SpecStatement) → IsKept σ → IsWritten s → IsGood σ place s ⊎ ((f : Fault) × Fails σ place s f)
statement-judged σ place s kept written = go (formulas-tokens σ (view s).formulas)
  where
    go : (pss : List (List MathToken)) × AreTokens σ (view s).formulas pss → IsGood σ place s ⊎ ((f : Fault) × Fails σ place s f)
    go (pss, are) = by (checks-judged σ kept place s written pss are)
      where
        by : Judged (statement_checks σ place s pss) → IsGood σ place s ⊎ ((f : Fault) × Fails σ place s f)
        by (inl all) = inl (pss, are, all)
        by (inr (f, fails)) = inr (f, (pss, are, fails))

-- ---- what a good statement makes

module _ (σ : State) (kept : IsKept σ) (vs : List Variable) (vars : AreVariables (scope_of σ vs).names) where
  string-meant : (f : Formula) (ps : List MathToken) → MathTokens σ.table.delimiters (inner (math_of f)) ps → AllHold (string_checks σ vs f ps) → (e : Tree) × IsMeant σ vs f e
  string-meant f ps cut all = go (some-reading (reader_of σ vs) (wanted_of σ f) (inner (math_of f)) kept.table vars)
    where
      excluded : (m : Misreading) → FailsFirst (formula_checks (reader_of σ vs) (wanted_of σ f) (inner (math_of f)) ps) m → ⊥
      excluded m fails =
          all_hold-excludes (string_checks σ vs f ps) (told (math_of f) m) all (retold-fails (told (math_of f)) (formula_checks (reader_of σ vs) (wanted_of σ f) (inner (math_of f)) ps) m fails)

      go : ((e : Tree) × IsFormula (reader_of σ vs) (wanted_of σ f) (inner (math_of f)) e) ⊎ ((m : Misreading) × Misreads (reader_of σ vs) (wanted_of σ f) (inner (math_of f)) m) → (e : Tree) × IsMeant σ vs f e
      go (inl meant) = meant
      go (inr (m, (qs, other, fails))) =
          absurd (excluded m (subst (λ (xs : List MathToken). FailsFirst (formula_checks (reader_of σ vs) (wanted_of σ f) (inner (math_of f)) xs) m) (math_tokens-one σ.table.delimiters (inner (math_of f)) 0 qs ps other cut) fails))

  strings-meant : (fs : List Formula) (pss : List (List MathToken)) → AreTokens σ fs pss → AllHold (strings_checks σ vs fs pss) → Every (λ f. (e : Tree) × IsMeant σ vs f e) fs
  strings-meant [] pss are all = tt
  strings-meant (f ∷ fs) [] are all = absurd are
  strings-meant (f ∷ fs) (ps ∷ pss) (cut, are) all =
      (string-meant f ps cut (all_hold-first (string_checks σ vs f ps) (strings_checks σ vs fs pss) all), strings-meant fs pss are (all_hold-rest (string_checks σ vs f ps) (strings_checks σ vs fs pss) all))

  hyps-made : (hs : List Stated) (c : Lexeme) → Every (λ f. (e : Tree) × IsMeant σ vs f e) (map stated_claim hs ++ claim c ∷ []) → ((es : Trees) × AreHyps σ vs hs es) × ((e : Tree) × IsMeant σ vs (claim c) e)
  hyps-made [] c (last, _) = ((none, refl), last)
  hyps-made (h ∷ hs) c ((e, meant), all) =
      let rest = hyps-made hs c all in
      ((followed_by (copies h.times e) rest.0.0, (e, rest.0.0, meant, rest.0.1, refl)), rest.1)

good-after : (σ : State) (place : ℕ) (s : SpecStatement) → IsKept σ → IsWritten s → IsGood σ place s → (τ : State) × After σ place s τ
good-after σ place (sort_statement m n) kept written good = let d = sort_decl (record { 0 = sort_bits m }) in (with_sort σ place n d, (d, refl, refl))
good-after σ place (term_statement h ts t) kept written good =
    let d = term_decl (record { signature = signature_of σ (view (term_statement h ts t)).variables t; form = plain_form }) in
    (with_term σ place h.name d, (d, refl, refl))
good-after σ place (assert_statement k h ps c) kept written (tokens, are, good) =
    let s = assert_statement k h ps c in
    let vs = (view s).variables in
    let vars = split-variables vs (good-others σ place s tokens good) (variables-written s written) in
    let made = hyps-made σ kept vs vars (stated_of h.groups ps) c (strings-meant σ kept vs vars (view s).formulas tokens are (good-strings σ place s tokens good)) in
    let d = assertion_decl (record { is_axiom = is_axiom k; params = param_binders σ vs; hyps = made.0.0; conclusion = made.1.0 }) in
    (with_assertion σ place h.name d, (d, (made.0.0, made.1.0, made.0.1, made.1.1, refl), refl))
good-after σ place (definition_statement h t None) kept written good =
    let d = term_decl (record { signature = signature_of σ (view (definition_statement h t None)).variables t; form = abstract_form }) in
    (with_term σ place h.name d, (d, (abstract_form, refl, refl), refl))
good-after σ place (definition_statement h t (Some l)) kept written (tokens, are, good) =
    let s = definition_statement h t (Some l) in
    let vs = (view s).variables in
    let vars = split-variables vs (good-others σ place s tokens good) (variables-written s written) in
    let all = strings-meant σ kept vs vars (view s).formulas tokens are (good-strings σ place s tokens good) in
    let f = defined (dummy_binders σ vs) all.0.0 in
    let d = term_decl (record { signature = signature_of σ vs t; form = f }) in
    (with_term σ place h.name d, (d, (f, (all.0.0, all.0.1, refl), refl), refl))
good-after σ place (operator_statement f n c l) kept written (tokens, are, good) =
    let (k, makes) = (good-form σ place (operator_statement f n c l) tokens good).0 in
    (with_table σ (with_notation σ.table k), (with_notation σ.table k, (k, makes, refl), refl))
good-after σ place (coercion_statement n from to) kept written good =
    let u = with_coercion σ.table (coercion_of σ n from to) in (with_table σ u, (u, refl, refl))
good-after σ place (delimiter_statement left right) kept written (tokens, are, good) =
    let (d, these) = (good-form σ place (delimiter_statement left right) tokens good).0 in
    (with_table σ (with_delimiters σ.table d), (with_delimiters σ.table d, (d, these, refl), refl))
good-after σ place (notation_statement h t ls last tail) kept written (tokens, are, good) =
    let (k, makes) = (good-form σ place (notation_statement h t ls last tail) tokens good).0 in
    (with_table σ (with_notation σ.table k), (with_notation σ.table k, (k, makes, refl), refl))

-- ---- statement by statement

-- all lexemes are good statements, or there is a fault
abbrev Outcome : ℕ → Option LexFault → State → List Lexeme → Type 0
Outcome n e σ ls = ((ss : List SpecStatement) × (τ : State) × Stand σ ss ls τ [] × (e ≡ None))
    ⊎ ((ss : List SpecStatement) × (τ : State) × (rest : List Lexeme) × (fault : Fault) × Stand σ ss ls τ rest × IsThere n e τ rest fault)

shorter : (front back : List Lexeme) (s : SpecStatement) (fuel : ℕ) → Spells s front → length (front ++ back) ≤ suc fuel → length back ≤ fuel
shorter [] back s fuel spells le = absurd (no-empty s spells)
shorter (l ∷ front) back s fuel spells le = omega (arith, length-append front back, le)

too-short : (front back : List Lexeme) (s : SpecStatement) → Spells s front → length (front ++ back) ≤ 0 → ⊥
too-short [] back s spells le = no-empty s spells
too-short (l ∷ front) back s spells le = absurd (omega (arith, le))

module _ (n : ℕ) (e : Option LexFault) where
  after-front : (σ μ : State) (ls front back : List Lexeme) (s : SpecStatement) → ls ≡ front ++ back → Spells s front → IsGood σ (place_of_first front) s → After σ (place_of_first front) s μ → Outcome n e μ back → Outcome n e σ ls
  after-front σ μ ls front back s is spells good after (inl (ss, τ, stand, ends)) = inl (s ∷ ss, τ, (front, back, μ, is, spells, good, after, stand), ends)
  after-front σ μ ls front back s is spells good after (inr (ss, τ, rest, f, stand, there)) = inr (s ∷ ss, τ, rest, f, (front, back, μ, is, spells, good, after, stand), there)

  one-step : (σ : State) (ls : List Lexeme) → IsKept σ → Every IsOfKind ls
      → ((μ : State) (s : SpecStatement) (front back : List Lexeme) → IsKept μ → Every IsOfKind back → ls ≡ front ++ back → Spells s front → Outcome n e μ back)
      → Begins ls ⊎ (((fault : Fault) × Stops n ls e fault) ⊎ ((ls ≡ []) × (e ≡ None))) → Outcome n e σ ls
  one-step σ ls kept kinds more (inr (inl (fault, stops))) = inr ([], σ, ls, fault, (refl, refl), inl stops)
  one-step σ ls kept kinds more (inr (inr (empty, ends))) = inl ([], σ, (refl, sym empty), ends)
  one-step σ ls kept kinds more (inl (s, front, back, is, spells)) = go (statement-judged σ (place_of_first front) s kept written)
    where
      parts : Every IsOfKind front × Every IsOfKind back
      parts = kinds-split ls front back is kinds

      written : IsWritten s
      written = (front, spells, parts.0)

      go : IsGood σ (place_of_first front) s ⊎ ((f : Fault) × Fails σ (place_of_first front) s f) → Outcome n e σ ls
      go (inr (f, fails)) = inr ([], σ, ls, f, (refl, refl), inr (s, front, back, is, spells, fails))
      go (inl good) =
          let next = good-after σ (place_of_first front) s kept written good in
          after-front σ next.0 ls front back s is spells good next.1 (more next.0 s front back (kept-written σ (place_of_first front) kept s next.0 written good next.1) parts.1 is spells)

  outcome : (fuel : ℕ) (σ : State) (ls : List Lexeme) → IsKept σ → Every IsOfKind ls → length ls ≤ fuel → Outcome n e σ ls
  outcome zero σ ls kept kinds le =
      one-step σ ls kept kinds (λ μ s front back _ _ is spells. absurd (too-short front back s spells (subst (λ xs. length xs ≤ 0) is le))) (one-of-all n ls e)
  outcome (suc fuel) σ ls kept kinds le =
      one-step σ ls kept kinds (λ μ s front back kept_s kinds_s is spells. outcome fuel μ back kept_s kinds_s (shorter front back s fuel spells (subst (λ xs. length xs ≤ suc fuel) is le))) (one-of-all n ls e)

-- ---- texts

pub one-of-both : OneOfBoth
one-of-both text = go (some-lexing text 0 (omega arith))
  where
    by : (ls : List Lexeme) (e : Option LexFault) → LexesFrom text 0 ls e → Outcome (length text) e no_state ls
        → ((entries : List Entry) × SpecMakes text entries) ⊎ ((refusal : SpecRefusal) × SpecFault text refusal)
    by ls e lexes (inl (ss, σ, stand, ends)) = inl (entries_of σ.env σ.spans, (ls, ss, σ, subst (LexesFrom text 0 ls) ends lexes, stand, refl))
    by ls e lexes (inr (ss, σ, rest, f, stand, there)) =
        inr (record { statement = length ss + 1; at = f.at; rule = f.rule }, (ls, e, ss, σ, rest, lexes, stand, refl, there))

    go : (ls : List Lexeme) × (e : Option LexFault) × LexesFrom text 0 ls e → ((entries : List Entry) × SpecMakes text entries) ⊎ ((refusal : SpecRefusal) × SpecFault text refusal)
    go (ls, e, lexes) = by ls e lexes (outcome (length text) e (length ls) no_state ls kept-nothing (lexes-kinds text 0 ls e lexes) (omega arith))
