-- What the reader finds a text to declare is what it declares.
use Rattle.std.proofs.Common.{◌≡◌, ◌∙◌, ◌++◌, ℕ, Bool, List, [], ◌∷◌, Option, Some, None, ap, ap₂, sym, refl, subst}
use Rattle.mz_base.specs.Checks.{AllHold, each_in_order}
use Rattle.mz_base.specs.Names.{IsNew}
use Rattle.mz_lex.specs.Lexemes.{Lexeme, LexesFrom}
use Rattle.mz_lex.specs.declared.tokens.Delimiters.{Delimiters}
use Rattle.mz_lex.specs.declared.tokens.MathToken.{MathToken}
use Rattle.mz_lex.proofs.Offered.{one-lexing}
use Rattle.mz_logic_theory.specs.Declaration.{Declaration, sort_decl, term_decl, assertion_decl, Assertion, Form, plain_form, defined, sorts}
use Rattle.mz_logic_theory.specs.LegalLists.{AreDummies}
use Rattle.mz_logic_theory.specs.Modifiers.{MayBeDummySort}
use Rattle.mz_logic_theory.specs.Tree.{Tree, Trees}
use Rattle.mz_logic_theory.specs.declared.binder.Binder.{Binder}
use Rattle.mz_logic_theory.specs.Legality.{IsLegalEnv, IsDummy}
use Rattle.mz_logic_theory.specs.Signature.{Signature}
use Rattle.mz_logic_theory.proofs.Offered.{each_from_all, legal_push}
use Rattle.mz_math_theory.specs.Clear.{IsClear}
use Rattle.mz_math_theory.specs.Kept.{AreDistinct, AreVariables}
use Rattle.mz_math_theory.specs.declared.wanted.Wanted.TheVariants.{Provable as provable, Sort as of_sort}
use Rattle.mz_math_theory.specs.Notation.{Variables, with_notation, with_coercion, with_delimiters}
use Rattle.mz_math_theory.specs.declared.coercion.Coercion.{Coercion}
use Rattle.mz_math_theory.specs.declared.notation.Notation.{Notation}
use Rattle.mz_spec_theory.specs.declared.kind.AssertKind.{AssertKind}
use Rattle.mz_spec_theory.specs.Declaring.{After, Declares, IsForm, is_axiom, sort_bits}
use Rattle.mz_spec_theory.specs.Dependencies.{Every}
use Rattle.mz_spec_theory.specs.Forms.{MakesNotation, coercion_of}
use Rattle.mz_spec_theory.specs.Formulas.{IsMeant, AreHyps}
use Rattle.mz_spec_theory.specs.Kept.{IsKept}
use Rattle.mz_spec_theory.specs.Reading.{place_of_first}
use Rattle.mz_spec_theory.specs.Rules.{IsResult, is_new, statement_checks}
use Rattle.mz_spec_theory.specs.Spec.{IsGood, Stand, SpecOf}
use Rattle.mz_spec_theory.specs.State.{State, nothing, with_sort, with_term, with_assertion, with_table, sort_number, dummy_binders, param_binders, signature_of, scope_of, reader_of, env_of}
use Rattle.mz_spec_theory.specs.Statement.{TypeText, SpecStatement, sort_statement, term_statement, assert_statement, definition_statement, operator_statement, coercion_statement, delimiter_statement, notation_statement, each, AreSigns, Spells, statement_signs}
use Rattle.mz_spec_theory.specs.View.{Variable, Stated, claim, view, stated_of, params_of, dummies_of}
use Rattle.mz_spec_theory.proofs.Offered.{IsOfKind, IsWritten, are_signs-append, delimiters-one, entries-decls, good-binders, good-form, good-levels, good-mentions, good-new, good-others, good-own, good-types, kept-nothing, kept-written, kinds-split, legal-written, lexes-kinds, makes-one, no-empty, signs-split, split-variables, stand-kept, statements-one, variables-written}
use Rattle.mz_spec_proved_theory.specs.WellFormed.{IsWellFormed}
use Rattle.mz_spec_proved_theory.specs.Theory.{Theory, no_theory, binders_over, signature_over, variables_over, reader_over, AreTyped}
use Rattle.mz_spec_proved_theory.specs.MathStrings.{StandsFor, AreHypotheses, IsFormText}
use Rattle.mz_spec_proved_theory.specs.NotationTexts.{Makes}
use Rattle.mz_spec_proved_theory.specs.Specifies.{AddsTerm, AddsNotation, Adds, AddAll, AreLexemes, Specifies}
use Rattle.mz_spec_proved_theory.proofs.FormedLegally.{formed-decl, legal-decl}
use Rattle.mz_spec_proved_theory.proofs.TheoryVariables.{theory, types-known, params-same, dummies-same, reader-same, scope-same, result-same, signature-same}
use Rattle.mz_spec_proved_theory.proofs.TheoryNotations.{means, meaning-one, hypotheses, hypotheses-one, precise-levels, general-made, general-back, operator-made, operator-back}

-- ---- a good statement

module _ (σ : State) (place : ℕ) (kept : IsKept σ) where
  abbrev θ : Theory
  θ = theory σ

  -- what is common to all
  module _ (s : SpecStatement) (tokens : List (List MathToken)) (written : IsWritten s) (good : AllHold (statement_checks σ place s tokens)) where
    abbrev vs : List Variable
    vs = (view s).variables

    scope : variables_over θ vs ≡ scope_of σ vs
    scope = scope-same σ vs (view s).result (good-others σ place s tokens good) (good-binders σ place s tokens good)

    reader : reader_over θ vs ≡ reader_of σ vs
    reader = reader-same σ vs (view s).result (good-others σ place s tokens good) (good-binders σ place s tokens good)

    dummies : binders_over θ vs (dummies_of vs) ≡ dummy_binders σ vs
    dummies = dummies-same σ vs (view s).result (good-others σ place s tokens good) (good-binders σ place s tokens good)

    params : binders_over θ vs (params_of vs) ≡ param_binders σ vs
    params = params-same σ vs (view s).result (good-others σ place s tokens good) (good-binders σ place s tokens good)

    signature : (t : TypeText) → IsResult (params_of vs) t → signature_over θ vs t ≡ signature_of σ vs t
    signature t is = signature-same σ vs (view s).result (good-others σ place s tokens good) (good-binders σ place s tokens good) t is

    own-names : AreVariables (scope_of σ vs).names
    own-names = split-variables vs (good-others σ place s tokens good) (variables-written s written)

    typed : AreTyped θ vs (view s).types
    typed = (subst (λ (x : Variables). AreDistinct x.names) (sym scope) own-names.distinct, types-known σ vs (view s).types (good-types σ place s tokens good))

    new : AllHold (each_in_order (is_new σ) (view s).declares)
    new = good-new σ place s tokens good

    result-is : Every (IsResult (params_of vs)) (view s).result
    result-is = (good-binders σ place s tokens good).2

    form-text : (t : TypeText) (b : Option Lexeme) (f : Form) → IsForm σ vs t b f → IsFormText (reader_over θ vs) (sort_number σ t) (binders_over θ vs (dummies_of vs)) b f
    form-text t None f is = is
    form-text t (Some l) f (e, meant, is) = (
      e,
      subst (λ r. StandsFor r (of_sort (sort_number σ t)) l e) (sym reader) (means (reader_of σ vs) (of_sort (sort_number σ t)) l e meant),
      is ∙ ap (λ ds. defined ds e) (sym dummies),
    )

    term-adds : (name : Lexeme) (t : TypeText) (f : Form) (d : Declaration) (τ : State) → IsNew σ.term_names name.text → IsResult (params_of vs) t
        → Declares σ s d → d ≡ term_decl (record { signature = signature_of σ vs t; form = f }) → τ ≡ with_term σ place name d
        → AddsTerm θ name vs (view s).types (record { signature = signature_over θ vs t; form = f }) (theory τ)
    term-adds name t f d τ is_new is_result declares is same =
        let turned : d ≡ term_decl (record { signature = signature_over θ vs t; form = f }) = is ∙ ap (λ (g : Signature). term_decl (record { signature = g; form = f })) (sym (signature t is_result)) in (
          is_new,
          typed,
          subst (IsWellFormed σ.env) turned (formed-decl σ.env d (legal-written σ place kept s d tokens written good declares)),
          ap theory same ∙ ap (λ (x : Declaration). theory (with_term σ place name x)) turned,
        )

    -- the notation that was made is the one with which the table is clear
    notation-adds : (k l : Notation) (τ : State) → MakesNotation σ s k → MakesNotation σ s l → IsClear (with_notation σ.table l).leading (with_notation σ.table l).infixes → Makes θ s k
        → τ ≡ with_table σ (with_notation σ.table k) → AddsNotation θ (Makes θ s) (theory τ)
    notation-adds k l τ makes other clear made is =
        (k, made, subst (λ (x : Notation). IsClear (with_notation σ.table x).leading (with_notation σ.table x).infixes) (makes-one σ s own-names l k other makes) clear, ap theory is)

  pub adds : (s : SpecStatement) (τ : State) → IsWritten s → IsGood σ place s → After σ place s τ → Adds (theory σ) s (theory τ)
  adds (sort_statement m n) τ written (tokens, cut, good) (d, is, same) =
      ((new (sort_statement m n) tokens written good).0, ap theory same ∙ ap (λ (x : Declaration). theory (with_sort σ place n x)) is)
  adds (term_statement h ts t) τ written (tokens, cut, good) (d, is, same) =
      let s = term_statement h ts t in
      term-adds s tokens written good h.name t plain_form d τ (new s tokens written good).0 (result-is s tokens written good).0 is is same
  adds (assert_statement kind h ps c) τ written (tokens, cut, good) (d, (hyps, e, are, meant, is), same) =
      let s = assert_statement kind h ps c in
      let read = reader s tokens written good in (
        record { is_axiom = is_axiom kind; params = param_binders σ (view s).variables; hyps = hyps; conclusion = e },
        refl,
        (
          (new s tokens written good).0,
          typed s tokens written good,
          sym (params s tokens written good),
          subst (λ r. AreHypotheses r (stated_of h.groups ps) hyps) (sym read) (hypotheses σ (view s).variables (stated_of h.groups ps) hyps are),
          subst (λ r. StandsFor r provable c e) (sym read) (means (reader_of σ (view s).variables) provable c e meant),
          subst (IsWellFormed σ.env) is (formed-decl σ.env d (legal-written σ place kept s d tokens written good (hyps, e, are, meant, is))),
          ap theory same ∙ ap (λ (x : Declaration). theory (with_assertion σ place h.name x)) is,
        ),
      )
  adds (definition_statement h t b) τ written (tokens, cut, good) (d, (f, is_form, is), same) =
      let s = definition_statement h t b in
      let own = subst (AreDummies (sorts σ.env)) (sym (dummies s tokens written good)) (each_from_all (λ b. IsDummy b × MayBeDummySort (sorts σ.env) b.sort) (dummy_binders σ (view s).variables) (good-own σ place kept h t b tokens good)) in
      (f, own, form-text s tokens written good t b f is_form, term-adds s tokens written good h.name t f d τ (new s tokens written good).0 (result-is s tokens written good).0 (f, is_form, is) is same)
  adds (operator_statement f n c level) τ written (tokens, cut, good) (u, (k, makes, is), same) =
      let s = operator_statement f n c level in
      let form = good-form σ place s tokens good in
      let precise = (precise-levels (level ∷ []) (good-levels σ place s tokens good)).0 in
      ((good-mentions σ place s tokens good).0, notation-adds s tokens written good k form.1.0.0 τ makes form.1.0.1 form.1.0.2 (operator-made σ f n c level k precise makes) (same ∙ ap (with_table σ) is))
  adds (coercion_statement n from to) τ written (tokens, cut, good) (u, is, same) =
      let s = coercion_statement n from to in
      let form = good-form σ place s tokens good in
      let known = good-types σ place s tokens good in
      ((good-mentions σ place s tokens good).0, known.0, known.1.0, (coercion_of σ n from to, refl, form.0, form.1.0, ap theory (same ∙ ap (with_table σ) is)))
  adds (delimiter_statement left right) τ written good (u, (d, are, is), same) = (d, are, ap theory (same ∙ ap (with_table σ) is))
  adds (notation_statement h t ls last tail) τ written (tokens, cut, good) (u, (k, (g, parts, is_g), is), same) =
      let s = notation_statement h t ls last tail in
      let form = good-form σ place s tokens good in
      let vs = (view s).variables in
      let result = result-same σ vs (view s).result (good-others σ place s tokens good) (good-binders σ place s tokens good) t (result-is s tokens written good).0 in
      let precise = precise-levels (view s).levels (good-levels σ place s tokens good) in
      let made = general-made σ h t (ls ++ last ∷ []) tail k (scope s tokens written good) result precise g parts is_g in
      ((good-mentions σ place s tokens good).0, typed s tokens written good, notation-adds s tokens written good k form.1.0.0 τ (g, parts, is_g) form.1.0.1 form.1.0.2 made (same ∙ ap (with_table σ) is))

-- ---- all of them

all-added : (σ τ : State) (ss : List SpecStatement) (ls : List Lexeme) → IsKept σ → Every IsOfKind ls → Stand σ ss ls τ [] → AreSigns (each statement_signs ss) ls × AddAll (theory σ) ss (theory τ)
all-added σ τ [] ls kept kinds (same, none) = (subst (AreSigns []) none tt, ap theory same)
all-added σ τ (s ∷ ss) ls kept kinds (front, back, μ, is, spells, good, after, more) =
    let parts = kinds-split ls front back is kinds in
    let written : IsWritten s = (front, spells, parts.0) in
    let rest = all-added μ τ ss back (kept-written σ (place_of_first front) kept s μ written good after) parts.1 more in (
      subst (AreSigns (each statement_signs (s ∷ ss))) (sym is) (are_signs-append (statement_signs s) (each statement_signs ss) front back spells rest.0),
      (theory μ, adds σ (place_of_first front) kept s μ written good after, rest.1),
    )

are-lexemes : (text : List ℕ) (from : ℕ) (ls : List Lexeme) → LexesFrom text from ls None → AreLexemes text from ls
are-lexemes text from [] lexes = lexes
are-lexemes text from (l ∷ ls) lexes = (lexes.0, are-lexemes text l.to ls lexes.1)

pub specifies : (text : List ℕ) (ds : List Declaration) → SpecOf text ds → Specifies text ds
specifies text ds (entries, (ls, ss, σ, lexes, stand, is), same) =
    let kinds = lexes-kinds text 0 ls None lexes in
    let added = all-added nothing σ ss ls kept-nothing kinds stand in
    let kept = stand-kept nothing σ ss ls [] kept-nothing kinds stand in
    (ls, ss, theory σ, are-lexemes text 0 ls lexes, added.0, added.1, same ∙ ap env_of is ∙ entries-decls σ.env σ.spans kept.spans)

-- ---- and no other

abbrev assertion_of : Bool → List Binder → Trees → Tree → Assertion
assertion_of is_axiom params hyps conclusion = record { is_axiom = is_axiom; params = params; hyps = hyps; conclusion = conclusion }

module _ (σ : State) (place : ℕ) (kept : IsKept σ) where
  -- a statement that is good makes of what is declared nothing else
  module _ (s : SpecStatement) (tokens : List (List MathToken)) (written : IsWritten s) (good : AllHold (statement_checks σ place s tokens)) where
    abbrev ws : List Variable
    ws = (view s).variables

    form-one : (t : TypeText) (b : Option Lexeme) (f g : Form) → IsForm σ ws t b f → IsFormText (reader_over (theory σ) ws) (sort_number σ t) (binders_over (theory σ) ws (dummies_of ws)) b g → g ≡ f
    form-one t None f g a b = b ∙ sym a
    form-one t (Some l) f g (e, meant, is) (d, meant_d, is_d) =
        is_d ∙ ap₂ (λ bs x. defined bs x) (dummies σ place kept s tokens written good)
        (meaning-one (reader_of σ ws) (of_sort (sort_number σ t)) l e d kept.table (own-names σ place kept s tokens written good) meant
        (subst (λ r. StandsFor r (of_sort (sort_number σ t)) l d) (reader σ place kept s tokens written good) meant_d)) ∙ sym is

    -- the assertion is the same
    assertion-one : (kind : AssertKind) (c : Lexeme) (hs : List Stated) (hyps : Trees) (e : Tree) (a : Assertion) → AreHyps σ ws hs hyps → IsMeant σ ws (claim c) e → a.is_axiom ≡ is_axiom kind
        → a.params ≡ binders_over (theory σ) ws (params_of ws) → AreHypotheses (reader_over (theory σ) ws) hs a.hyps → StandsFor (reader_over (theory σ) ws) provable c a.conclusion
        → a ≡ record { is_axiom = is_axiom kind; params = param_binders σ ws; hyps = hyps; conclusion = e }
    assertion-one kind c hs hyps e a are meant is_kind is_params are_a meant_a =
        let read = reader σ place kept s tokens written good in
        let names = own-names σ place kept s tokens written good in
        ap₂ (λ x bs. assertion_of x bs a.hyps a.conclusion) is_kind (is_params ∙ params σ place kept s tokens written good)
        ∙ ap₂ (λ xs y. assertion_of (is_axiom kind) (param_binders σ ws) xs y)
        (hypotheses-one σ ws kept.table names hs hyps a.hyps are (subst (λ r. AreHypotheses r hs a.hyps) read are_a))
        (meaning-one (reader_of σ ws) provable c e a.conclusion kept.table names meant (subst (λ r. StandsFor r provable c a.conclusion) read meant_a))

  pub adds-one : (s : SpecStatement) (τ : State) (ρ : Theory) → IsWritten s → IsGood σ place s → After σ place s τ → Adds (theory σ) s ρ → ρ ≡ theory τ
  adds-one (sort_statement m n) τ ρ written good after other = other.1 ∙ sym (adds σ place kept (sort_statement m n) τ written good after).1
  adds-one (term_statement h ts t) τ ρ written good after other = other.3 ∙ sym (adds σ place kept (term_statement h ts t) τ written good after).3
  adds-one (assert_statement kind h ps c) τ ρ written (tokens, cut, good) (d, (hyps, e, are, meant, is), same) (a, is_kind, (_, _, is_params, are_a, meant_a, _, made)) =
      let s = assert_statement kind h ps c in
      let one = assertion-one s tokens written good kind c (stated_of h.groups ps) hyps e a are meant is_kind is_params are_a meant_a in
      made ∙ ap (λ (x : Assertion). theory (with_assertion σ place h.name (assertion_decl x))) one ∙ sym (ap theory same ∙ ap (λ (x : Declaration). theory (with_assertion σ place h.name x)) is)
  adds-one (definition_statement h t b) τ ρ written (tokens, cut, good) (d, (f, is_form, is), same) (g, _, form_g, (_, _, _, made)) =
      let s = definition_statement h t b in
      let one = form-one s tokens written good t b f g is_form form_g in
      let type = signature σ place kept s tokens written good t (result-is σ place kept s tokens written good).0 in
      made ∙ ap (λ (x : Form). theory (with_term σ place h.name (term_decl (record { signature = signature_over (theory σ) (view s).variables t; form = x })))) one
      ∙ sym (ap theory same ∙ ap (λ (x : Declaration). theory (with_term σ place h.name x)) (is ∙ ap (λ (g : Signature). term_decl (record { signature = g; form = f })) (sym type)))
  adds-one (operator_statement f n c level) τ ρ written (tokens, cut, good) (u, (k, makes, is), same) (_, (l, made, _, is_l)) =
      let s = operator_statement f n c level in
      let one = makes-one σ s (own-names σ place kept s tokens written good) l k (operator-back σ f n c level l made) makes in
      is_l ∙ ap (λ (x : Notation). theory (with_table σ (with_notation σ.table x))) one ∙ sym (ap theory (same ∙ ap (with_table σ) is))
  adds-one (coercion_statement n from to) τ ρ written good (u, is, same) (_, _, _, (c, is_c, _, _, made)) =
      made ∙ ap (λ (x : Coercion). theory (with_table σ (with_coercion σ.table x))) is_c ∙ sym (ap theory (same ∙ ap (with_table σ) is))
  adds-one (delimiter_statement left right) τ ρ written good (u, (d, are, is), same) (e, are_e, made) =
      made ∙ ap (λ (x : Delimiters). theory (with_table σ (with_delimiters σ.table x))) (delimiters-one _ _ e d are_e are) ∙ sym (ap theory (same ∙ ap (with_table σ) is))
  adds-one (notation_statement h t ls last tail) τ ρ written (tokens, cut, good) (u, (k, (g, parts, is_g), is), same) (_, _, (l, made, _, is_l)) =
      let s = notation_statement h t ls last tail in
      let back = general-back σ h t (ls ++ last ∷ []) tail k l (scope σ place kept s tokens written good) g parts is_g made in
      let one = makes-one σ s (own-names σ place kept s tokens written good) l k (g, parts, back) (g, parts, is_g) in
      is_l ∙ ap (λ (x : Notation). theory (with_table σ (with_notation σ.table x))) one ∙ sym (ap theory (same ∙ ap (with_table σ) is))

-- nothing spells no statement
never-empty : (s : SpecStatement) (front back ls : List Lexeme) → Spells s front → ls ≡ front ++ back → [] ≡ ls → ⊥
never-empty s [] back ls spells is none = no-empty s spells
never-empty s (l ∷ front) back ls spells is none = absurd (let e : [] ≡ l ∷ (front ++ back) = none ∙ is in cc)

all-one : (σ τ : State) (ss rs : List SpecStatement) (ls : List Lexeme) (ρ : Theory) → IsKept σ → Every IsOfKind ls → Stand σ ss ls τ [] → AreSigns (each statement_signs rs) ls → AddAll (theory σ) rs ρ → ρ ≡ theory τ
all-one σ τ [] [] ls ρ kept kinds (same, _) signs added = added ∙ sym (ap theory same)
all-one σ τ [] (r ∷ rs) ls ρ kept kinds (_, none) signs added =
    let (front, back, is, spells, _) = signs-split (statement_signs r) (each statement_signs rs) ls signs in absurd (never-empty r front back ls spells is none)
all-one σ τ (s ∷ ss) [] [] ρ kept kinds (front, back, μ, is, spells, good, after, more) signs added = absurd (never-empty s front back [] spells is refl)
all-one σ τ (s ∷ ss) [] (l ∷ ls) ρ kept kinds stand signs added = absurd signs
all-one σ τ (s ∷ ss) (r ∷ rs) ls ρ kept kinds (front, back, μ, is, spells, good, after, more) signs (π, first, others) =
    let (other, left, is_r, spells_r, rest) = signs-split (statement_signs r) (each statement_signs rs) ls signs in
    let same = statements-one s r front back other left spells spells_r (sym is ∙ is_r) in
    let parts = kinds-split ls front back is kinds in
    let written : IsWritten s = (front, spells, parts.0) in
    let here = adds-one σ (place_of_first front) kept s μ π written good after (subst (λ x. Adds (theory σ) x π) (sym same.0) first) in
    all-one μ τ ss rs back ρ (kept-written σ (place_of_first front) kept s μ written good after) parts.1 more
    (subst (AreSigns (each statement_signs rs)) (sym same.2) rest) (subst (λ x. AddAll x rs ρ) here others)

lexes-from : (text : List ℕ) (from : ℕ) (ls : List Lexeme) → AreLexemes text from ls → LexesFrom text from ls None
lexes-from text from [] are = are
lexes-from text from (l ∷ ls) are = (are.0, lexes-from text l.to ls are.1)

-- a text that breaks no rule specifies nothing but what it declares
pub specifies-one : (text : List ℕ) (ds es : List Declaration) → SpecOf text ds → Specifies text es → es ≡ ds
specifies-one text ds es (entries, (ls, ss, σ, lexes, stand, is), same) (ms, rs, ρ, lexemes, signs, added, is_es) =
    let lists = (one-lexing text 0 ls ms None None lexes (lexes-from text 0 ms lexemes)).0 in
    let kinds = lexes-kinds text 0 ls None lexes in
    let kept = stand-kept nothing σ ss ls [] kept-nothing kinds stand in
    let one = all-one nothing σ ss rs ls ρ kept-nothing kinds stand (subst (AreSigns (each statement_signs rs)) (sym lists) signs) added in
    is_es ∙ ap (λ (x : Theory). x.env) one ∙ sym (same ∙ ap env_of is ∙ entries-decls σ.env σ.spans kept.spans)

-- ---- what is declared is legal

legal-more : (θ τ : Theory) (d : Declaration) → IsLegalEnv θ.env → IsWellFormed θ.env d → τ.env ≡ θ.env ++ d ∷ [] → IsLegalEnv τ.env
legal-more θ τ d legal formed is = subst IsLegalEnv (sym is) (legal_push θ.env d legal (legal-decl θ.env d formed))

abbrev env_in : Theory → List Declaration
env_in θ = θ.env

adds-legal : (θ τ : Theory) (s : SpecStatement) → IsLegalEnv θ.env → Adds θ s τ → IsLegalEnv τ.env
adds-legal θ τ (sort_statement m n) legal (_, is) = legal-more θ τ (sort_decl (record { 0 = sort_bits m })) legal tt (ap env_in is)
adds-legal θ τ (term_statement h ts t) legal (_, _, formed, is) = legal-more θ τ _ legal formed (ap env_in is)
adds-legal θ τ (assert_statement kind h ps c) legal (a, _, (_, _, _, _, _, formed, is)) = legal-more θ τ (assertion_decl a) legal formed (ap env_in is)
adds-legal θ τ (definition_statement h t b) legal (f, _, _, (_, _, formed, is)) = legal-more θ τ _ legal formed (ap env_in is)
adds-legal θ τ (operator_statement f n c level) legal (_, (_, _, _, is)) = subst IsLegalEnv (sym (ap env_in is)) legal
adds-legal θ τ (coercion_statement n from to) legal (_, _, _, (_, _, _, _, is)) = subst IsLegalEnv (sym (ap env_in is)) legal
adds-legal θ τ (delimiter_statement left right) legal (_, _, is) = subst IsLegalEnv (sym (ap env_in is)) legal
adds-legal θ τ (notation_statement h t ls last tail) legal (_, _, (_, _, _, is)) = subst IsLegalEnv (sym (ap env_in is)) legal

all-legal : (θ τ : Theory) (ss : List SpecStatement) → IsLegalEnv θ.env → AddAll θ ss τ → IsLegalEnv τ.env
all-legal θ τ [] legal is = subst IsLegalEnv (sym (ap env_in is)) legal
all-legal θ τ (s ∷ ss) legal (ρ, added, more) = all-legal ρ τ ss (adds-legal θ ρ s legal added) more

pub specified-legal : (text : List ℕ) (ds : List Declaration) → Specifies text ds → IsLegalEnv ds
specified-legal text ds (ls, ss, τ, lexemes, signs, added, is) = subst IsLegalEnv (sym is) (all-legal no_theory τ ss tt added)
