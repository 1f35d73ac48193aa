-- Lines that are printed of declarations are a specification that declares them.
use Rattle.std.proofs.Common.{◌≡◌, ◌∙◌, ◌<◌, ◌≤◌, ◌+◌, ◌++◌, ◌/◌, ◌%◌, ℕ, zero, suc, List, [], ◌∷◌, length, map, Bool, true, false, Some, None, ap, ap₂, sym, refl, subst, subst₂, inl, inr, arith, get_or, append-nil, append_assoc, length-append}
use Rattle.std.specs.Prelude.{⊤, All, IsTrue, Contains, codes, ◌==◌}
use Rattle.std.proofs.Math.Seq.{get_or-append_seam}
use Rattle.std.proofs.lemmas.List.{get_or_append_left}
use Rattle.std.proofs.lemmas.List.Elements.{All-nil, Contains-push}
use Rattle.std.proofs.lemmas.Bool.{cases_order}
use Rattle.mz_lex.specs.Lexemes.{Lexeme}
use Rattle.mz_base.specs.Identifiers.{is_name}
use Rattle.mz_logic_theory.specs.Tree.{Tree, Trees, none, more}
use Rattle.mz_logic_theory.specs.Signature.{Signature}
use Rattle.mz_logic_theory.specs.Declaration.{Form, plain_form, abstract_form, defined, Term, Assertion, Declaration, sort_decl, term_decl, assertion_decl, sorts, signatures}
use Rattle.mz_logic_theory.specs.Modifiers.{MayBeDummySort}
use Rattle.mz_logic_theory.specs.Legality.{AreBindersThere, IsBinderThere, IsDummy, IsClaim, EachTree, AllInRange, InRange, HasOperandSorts, HasBoundOperands}
use Rattle.mz_logic_theory.specs.declared.binder.Binder.{Binder}
use Rattle.mz_logic_theory.specs.declared.binder.SortMods.{SortMods}
use Rattle.mz_logic_theory.proofs.Offered.{sorts-append, signatures-append, same-sorts, same-signatures}
use Rattle.mz_math_theory.specs.Notation.{TermName}
use Rattle.mz_spec_theory.specs.declared.kind.AssertKind.{AssertKind}
use Rattle.mz_spec_theory.specs.declared.kind.Kind.TheVariants.{Term as TermKind, Assert, Definition}
use Rattle.mz_spec_theory.specs.Statement.{TypeText, SpecStatement, sort_statement, term_statement, assert_statement, definition_statement, keyword_of}
use Rattle.mz_spec_theory.specs.Reading.{place_of_first}
use Rattle.mz_prefix.specs.Tokens.{lexeme_at, lexemes_at, stop}
use Rattle.mz_prefix.specs.Lines.{Line, math_word, math_text, spaced_mark, spaced_name, sort_words, hyps_words, type_words, title_words, binders_at, type_at, hyps_at, colon_at, line_words, statement_at, next_line, HasItsDummies, HaveNoDummies, name_word}
use Rattle.mz_prefix.specs.Plain.{IsPlain, ArePlain, lines_lexemes, AreNames, IsPlainType, ArePlainBinders, AreFormulas}
use Rattle.mz_base.specs.Names.{number_of, IsNew}
use Rattle.mz_base.proofs.Offered.{all-others, number-last, number-more}
use Rattle.mz_spec_theory.specs.View.{sorts as sort_space, terms, assertions, body, Variable, variables_of, unnamed, types_of, group_types, group_stated, premise_stated, Stated, stated_claim, claim}
use Rattle.mz_spec_theory.specs.State.{State, signature_of, dummy_binders, param_binders, nothing, with_sort, with_term, with_assertion, entries_of}
use Rattle.mz_spec_theory.specs.Formulas.{IsMeant, AreHyps}
use Rattle.mz_prefix.specs.Prefix.{IsShort}
use Rattle.mz_spec_theory.specs.Declaring.{After, sort_bits, bit, is_axiom}
use Rattle.mz_spec_theory.specs.Spec.{IsGood, Stand}
use Rattle.mz_prefix.specs.NamedDeclarations.{Named, Vocabulary, line_of, lines_of, decls_of, line_of_decl, modifiers_of, kind_of, plain_type, plain_binders, formula_of, formulas_of, HasVariables, AreShort, IsPrintable, ArePrintable, used_with, term_line_of, plain_dummies}
use Rattle.mz_prefix.specs.ReadLaws.{PrintedSpecificationsDeclare}
use Rattle.mz_prefix.proofs.Spelling.{lines-spell}
use Rattle.mz_prefix.proofs.PlainLines.{lines-lex}
use Rattle.mz_spec_theory.proofs.Offered.{entries-decls}
use Rattle.mz_prefix.proofs.Places.{AllBelow, below-all}
use Rattle.mz_prefix.proofs.ReadFormulas.{IsBehind, tokens-are}
use Rattle.mz_prefix.proofs.Statements.{GoodBy, good-by, good-typed, good-claims, no-stated, no-types, params-same, signature-same, dummies-same, meant-claim, meant-body, covered, hyps-meant}

-- ---- modifiers

bit-go : (r : ℕ) → r < 2 → bit (r == 1) 1 ≡ r
bit-go (suc (suc r)) less = absurd (omega arith)
bit-go _ less = refl

bit-is : (k : ℕ) → bit (k % 2 == 1) 1 ≡ k % 2
bit-is k = bit-go (k % 2) (omega arith)

bits-are : (k : ℕ) → k < 16 → sort_bits (modifiers_of (record { 0 = k })) ≡ k
bits-are k less = omega (arith, bit-is k, bit-is (k / 2), bit-is (k / 4), bit-is (k / 8))

-- ---- one more declaration

at-last : (f : ℕ → List ℕ) (xs : List (List ℕ)) (x : List ℕ) → ((i : ℕ) → i < length xs → get_or xs i [] ≡ f i) → x ≡ f (length xs) → (i : ℕ) → i < length (xs ++ x ∷ []) → get_or (xs ++ x ∷ []) i [] ≡ f i
at-last f xs x are is i less =
    elim (cases_order i (length xs)) [
      | inl same ↦ ap (λ j. get_or (xs ++ x ∷ []) j []) same ∙ get_or-append_seam xs x [] [] ∙ is ∙ ap f (sym same)
      | inr other ↦ elim other [
        | inl earlier ↦ get_or_append_left xs (x ∷ []) [] i earlier ∙ are i earlier
        | inr later ↦ absurd (omega (arith, length-append xs (x ∷ [])))
      ]
    ]

contains-left : {A : Type 0} (xs : List A) (y x : A) → Contains xs x → Contains (xs ++ y ∷ []) x
contains-left xs y x (k, less, is) = (k, (omega (arith, length-append xs (y ∷ []))), get_or_append_left xs (y ∷ []) x k less ∙ is)

-- formulas over a context are right
abbrev pub RightIn : Vocabulary → State → List Binder → Trees → Type 0
RightIn v σ ctx none = ⊤
RightIn v σ ctx (more e es) = InRange (signatures σ.env) (length ctx) e × HasOperandSorts (signatures σ.env) ctx e × HasBoundOperands (signatures σ.env) ctx e
    × IsClaim σ.env ctx e × IsShort (formula_of v e) e × RightIn v σ ctx es

module _ (v : Vocabulary) (n : ℕ) (variables : HasVariables v n) where
  abbrev RightOver : State → List Binder → Trees → Type 0
  RightOver σ ctx es = RightIn v σ ctx es

  right-of : (σ : State) (ctx : List Binder) (es : Trees) → AllInRange (signatures σ.env) (length ctx) es → EachTree (HasOperandSorts (signatures σ.env) ctx) es → EachTree (HasBoundOperands (signatures σ.env) ctx) es
      → EachTree (IsClaim σ.env ctx) es → AreShort v es → RightOver σ ctx es
  right-of σ ctx none range fits bounds claims short = tt
  right-of σ ctx (more e es) range fits bounds claims short = (range.0, fits.0, bounds.0, claims.0, short.0, right-of σ ctx es range.1 fits.1 bounds.1 claims.1 short.1)

  -- ---- what is behind one more declaration

  behind-assertion : (σ : State) (place : ℕ) (l : Lexeme) (a : Assertion) → IsBehind v n σ → IsBehind v n (with_assertion σ place l (assertion_decl a))
  behind-assertion σ place l a behind =
      let s = same-sorts σ.env (assertion_decl a) refl in
      let t = same-signatures σ.env (assertion_decl a) refl in
      record {
        sorts_many = behind.sorts_many ∙ sym (ap length s);
        terms_many = behind.terms_many ∙ sym (ap length t);
        spans_many = omega (arith, behind.spans_many, length-append σ.spans (record { from = l.from; to = l.to; place = place } ∷ []), length-append σ.env (assertion_decl a ∷ []));
        sort_at = behind.sort_at;
        term_at = behind.term_at;
        sort_number = λ i less. behind.sort_number i (omega (arith, ap length s));
        sort_name = λ i less. behind.sort_name i (omega (arith, ap length s));
        term_found = λ i less. behind.term_found i (omega (arith, ap length t));
        term_name = λ i less. behind.term_name i (omega (arith, ap length t));
        apart = λ x i xs less. behind.apart x i xs (omega (arith, ap length t));
        delimiters = behind.delimiters;
        leading = behind.leading;
      }

  behind-sort : (σ : State) (place : ℕ) (l : Lexeme) (m : SortMods) → IsBehind v n σ → IsTrue (is_name l.text) → l.text ≡ v.sort (length (sorts σ.env)) → IsNew σ.sort_names l.text
      → IsBehind v n (with_sort σ place l (sort_decl m))
  behind-sort σ place l m behind name is new =
      let s = sorts-append σ.env (sort_decl m ∷ []) in
      let t = same-signatures σ.env (sort_decl m) refl in
      let many : length (sorts (σ.env ++ sort_decl m ∷ [])) ≡ length (sorts σ.env) + 1 = omega (arith, ap length s, length-append (sorts σ.env) (m ∷ [])) in
      record {
        sorts_many = omega (arith, behind.sorts_many, many, length-append σ.sort_names (l.text ∷ []));
        terms_many = behind.terms_many ∙ sym (ap length t);
        spans_many = omega (arith, behind.spans_many, length-append σ.spans (record { from = l.from; to = l.to; place = place } ∷ []), length-append σ.env (sort_decl m ∷ []));
        sort_at = at-last v.sort σ.sort_names l.text behind.sort_at (is ∙ ap v.sort (sym behind.sorts_many));
        term_at = behind.term_at;
        sort_number = λ i less. elim (cases_order i (length (sorts σ.env))) [
          | inl same ↦ ap (number_of (σ.sort_names ++ l.text ∷ [])) (ap v.sort same ∙ sym is) ∙ number-last σ.sort_names l.text new ∙ ap Some (behind.sorts_many ∙ sym same)
          | inr other ↦ elim other [
            | inl earlier ↦ number-more σ.sort_names l.text (v.sort i) i (behind.sort_number i earlier)
            | inr later ↦ absurd (omega (arith, many))
          ]
        ];
        sort_name = λ i less. elim (cases_order i (length (sorts σ.env))) [
          | inl same ↦ ap is_name (ap v.sort same ∙ sym is) ∙ name
          | inr other ↦ elim other [
            | inl earlier ↦ behind.sort_name i earlier
            | inr later ↦ absurd (omega (arith, many))
          ]
        ];
        term_found = λ i less. behind.term_found i (omega (arith, ap length t));
        term_name = λ i less. behind.term_name i (omega (arith, ap length t));
        apart = λ x i xs less. behind.apart x i xs (omega (arith, ap length t));
        delimiters = behind.delimiters;
        leading = behind.leading;
      }

  behind-term : (σ : State) (place : ℕ) (l : Lexeme) (d : Term) → IsBehind v n σ → IsTrue (is_name l.text) → l.text ≡ v.term (length (signatures σ.env)) → ((x : ℕ) → x < n → v.variable x ≡ l.text → ⊥)
      → IsBehind v n (with_term σ place l (term_decl d))
  behind-term σ place l d behind name is apart =
      let s = same-sorts σ.env (term_decl d) refl in
      let t = signatures-append σ.env (term_decl d ∷ []) in
      let many : length (signatures (σ.env ++ term_decl d ∷ [])) ≡ length (signatures σ.env) + 1 = omega (arith, ap length t, length-append (signatures σ.env) (d.signature ∷ [])) in
      record {
        sorts_many = behind.sorts_many ∙ sym (ap length s);
        terms_many = omega (arith, behind.terms_many, many, length-append σ.term_names (l.text ∷ []));
        spans_many = omega (arith, behind.spans_many, length-append σ.spans (record { from = l.from; to = l.to; place = place } ∷ []), length-append σ.env (term_decl d ∷ []));
        sort_at = behind.sort_at;
        term_at = at-last v.term σ.term_names l.text behind.term_at (is ∙ ap v.term (sym behind.terms_many));
        sort_number = λ i less. behind.sort_number i (omega (arith, ap length s));
        sort_name = λ i less. behind.sort_name i (omega (arith, ap length s));
        term_found = λ i less. elim (cases_order i (length (signatures σ.env))) [
          | inl same ↦ (
              let P : TermName → Type 0 = λ a. Contains (σ.table.names ++ record { name = l.text; term = length σ.term_names } ∷ []) a in
              let Q : List ℕ → Type 0 = λ w. P (record { name = w; term = i }) in
              let R : ℕ → Type 0 = λ k. P (record { name = l.text; term = k }) in
              subst Q (is ∙ ap v.term (sym same)) (subst R (behind.terms_many ∙ sym same) (Contains-push σ.table.names (record { name = l.text; term = length σ.term_names }))))
          | inr other ↦ elim other [
            | inl earlier ↦ contains-left σ.table.names _ _ (behind.term_found i earlier)
            | inr later ↦ absurd (omega (arith, many))
          ]
        ];
        term_name = λ i less. elim (cases_order i (length (signatures σ.env))) [
          | inl same ↦ ap is_name (ap v.term same ∙ sym is) ∙ name
          | inr other ↦ elim other [
            | inl earlier ↦ behind.term_name i earlier
            | inr later ↦ absurd (omega (arith, many))
          ]
        ];
        apart = λ x i xs less e. elim (cases_order i (length (signatures σ.env))) [
          | inl same ↦ apart x xs (e ∙ ap v.term same ∙ sym is)
          | inr other ↦ elim other [
            | inl earlier ↦ behind.apart x i xs earlier e
            | inr later ↦ absurd (omega (arith, many))
          ]
        ];
        delimiters = behind.delimiters;
        leading = behind.leading;
      }

  -- ---- one statement

  pub record Step (σ : State) (place : ℕ) (s : SpecStatement) (name : List ℕ) (d : Declaration) : Type 0 where
    pub state : State
    pub good : IsGood σ place s
    pub after : After σ place s state
    pub behind : IsBehind v n state
    pub env : state.env ≡ σ.env ++ d ∷ []
    pub used : state.assertion_names ≡ used_with σ.assertion_names name d

  sort-step : (σ : State) (place : ℕ) (l : Lexeme) (m : SortMods) → IsBehind v n σ → IsPrintable v n σ.env σ.assertion_names (record { name = l.text; decl = sort_decl m })
      → Step σ place (sort_statement (modifiers_of m) l) l.text (sort_decl m)
  sort-step σ place l m behind printable =
      let (is, others) = printable.new in
      let new : IsNew σ.sort_names l.text = all-others σ.sort_names v.sort l.text behind.sort_at (λ i less. others i (omega (arith, behind.sorts_many))) in
      record {
        state = with_sort σ place l (sort_decl m);
        good = good-by σ place (record { space = sort_space; name = l } ∷ []) [] [] [] [] (new, tt) tt tt (tt, tt, tt) tt tt tt tt;
        after = (sort_decl m, ap (λ k. sort_decl (record { 0 = k })) (sym (bits-are m.0 printable.within)), refl);
        behind = behind-sort σ place l m behind printable.identifier is new;
        env = refl;
        used = refl;
      }

  term-new : (σ : State) (l : Lexeme) (d : Term) → IsBehind v n σ → IsPrintable v n σ.env σ.assertion_names (record { name = l.text; decl = term_decl d }) → IsNew σ.term_names l.text
  term-new σ l d behind printable = all-others σ.term_names v.term l.text behind.term_at (λ i less. printable.new.1 i (omega (arith, behind.terms_many)))

  term-step : (σ : State) (place q c : ℕ) (l : Lexeme) (sig : Signature) → IsBehind v n σ → IsPrintable v n σ.env σ.assertion_names (record { name = l.text; decl = term_decl (record { signature = sig; form = plain_form }) })
      → Step σ place (term_statement (record { name = l; groups = binders_at q (plain_binders v 0 sig.params []) }) [] (type_at c (plain_type v sig.result.sort sig.result.deps))) l.text (term_decl (record { signature = sig; form = plain_form }))
  term-step σ place q c l sig behind printable =
      let (names, (binders, (pure, (_, (_, (_, (may, _))))))) = printable.legal in
      let (few, up, rising, _) = printable.within in
      let t : TypeText = type_at c (plain_type v sig.result.sort sig.result.deps) in
      let vs : List Variable = variables_of (binders_at q (plain_binders v 0 sig.params [])) in
      let small : length sig.params + length {A = Binder} [] ≤ n = omega (arith, length-append sig.params []) in
      let d : Declaration = term_decl (record { signature = sig; form = plain_form }) in
      let P : List Variable → Type 0 = λ us. GoodBy σ place (record { space = terms; name = l } ∷ []) us (group_types (binders_at q (plain_binders v 0 sig.params [])) ++ t ∷ []) (t ∷ []) [] in
      let same : signature_of σ (vs ++ []) t ≡ sig = ap (λ us. signature_of σ us t) (append-nil vs) ∙ signature-same v n variables σ behind sig.params [] small names.0 names.1 binders.0 binders.1 may up q sig.result c names.2 binders.2 rising in
      record {
        state = with_term σ place l d;
        good = subst P (sym (append-nil vs)) (good-typed v n variables σ behind sig.params [] small names.0 names.1 binders.0 binders.1 may up q place (record { space = terms; name = l } ∷ []) sig.result c []
            (term-new σ l _ behind printable, tt) pure names.3 binders.2 tt tt);
        after = (d, ap (λ g. term_decl (record { signature = g; form = plain_form })) (sym same), refl);
        behind = behind-term σ place l _ behind printable.identifier printable.new.0 printable.new.2;
        env = refl;
        used = refl;
      }

  abstract-step : (σ : State) (place q c : ℕ) (l : Lexeme) (sig : Signature) → IsBehind v n σ → IsPrintable v n σ.env σ.assertion_names (record { name = l.text; decl = term_decl (record { signature = sig; form = abstract_form }) })
      → Step σ place (definition_statement (record { name = l; groups = binders_at q (plain_binders v 0 sig.params []) }) (type_at c (plain_type v sig.result.sort sig.result.deps)) None) l.text (term_decl (record { signature = sig; form = abstract_form }))
  abstract-step σ place q c l sig behind printable =
      let (names, (binders, (pure, (_, (_, (_, (may, _))))))) = printable.legal in
      let (few, up, rising, _) = printable.within in
      let t : TypeText = type_at c (plain_type v sig.result.sort sig.result.deps) in
      let small : length sig.params + length {A = Binder} [] ≤ n = omega (arith, length-append sig.params []) in
      let d : Declaration = term_decl (record { signature = sig; form = abstract_form }) in
      record {
        state = with_term σ place l d;
        good = good-typed v n variables σ behind sig.params [] small names.0 names.1 binders.0 binders.1 may up q place (record { space = terms; name = l } ∷ []) sig.result c []
            (term-new σ l _ behind printable, tt) pure names.3 binders.2 tt tt;
        after = (d, (abstract_form, refl, ap (λ g. term_decl (record { signature = g; form = abstract_form })) (sym (signature-same v n variables σ behind sig.params [] small names.0 names.1 binders.0 binders.1 may up q sig.result c names.2 binders.2 rising))), refl);
        behind = behind-term σ place l _ behind printable.identifier printable.new.0 printable.new.2;
        env = refl;
        used = refl;
      }

  defined-step : (σ : State) (place q c : ℕ) (l f : Lexeme) (sig : Signature) (ds : List Binder) (e : Tree) → f.text ≡ math_text (formula_of v e) → IsBehind v n σ
      → IsPrintable v n σ.env σ.assertion_names (record { name = l.text; decl = term_decl (record { signature = sig; form = defined ds e }) })
      → Step σ place (definition_statement (record { name = l; groups = binders_at q (plain_binders v 0 sig.params ds) }) (type_at c (plain_type v sig.result.sort sig.result.deps)) (Some f)) l.text (term_decl (record { signature = sig; form = defined ds e }))
  defined-step σ place q c l f sig ds e text behind printable =
      let (names, (binders, (pure, (are, (bounds, (_, (may, (free, _)))))))) = printable.legal in
      let (few, up, rising, short) = printable.within in
      let t : TypeText = type_at c (plain_type v sig.result.sort sig.result.deps) in
      let vs : List Variable = variables_of (binders_at q (plain_binders v 0 sig.params ds)) in
      let small : length sig.params + length ds ≤ n = omega (arith, length-append sig.params ds) in
      let d : Declaration = term_decl (record { signature = sig; form = defined ds e }) in
      let meant = meant-body v n variables σ behind sig.params ds small names.0 names.1 binders.0 binders.1 may up q e f sig.result.sort sig.result.deps c text names.2 names.4.0 are.0.0 bounds.0 are.1.0 short in
      let covers = covered v n variables σ behind sig.params ds small names.0 names.1 binders.0 binders.1 may up q sig.result c e binders.2 rising free.0 in
      let same = signature-same v n variables σ behind sig.params ds small names.0 names.1 binders.0 binders.1 may up q sig.result c names.2 binders.2 rising in
      let dummies = dummies-same v n variables σ behind sig.params ds small names.0 names.1 binders.0 binders.1 may up q in
      record {
        state = with_term σ place l d;
        good = good-typed v n variables σ behind sig.params ds small names.0 names.1 binders.0 binders.1 may up q place (record { space = terms; name = l } ∷ []) sig.result c (body f t ∷ [])
            (term-new σ l _ behind printable, tt) pure names.3 binders.2 ((e, meant), tt) ((e, meant, covers), tt);
        after = (d, (defined (dummy_binders σ vs) e, (e, meant, refl), ap₂ (λ g xs. term_decl (record { signature = g; form = defined xs e })) (sym same) (sym dummies)), refl);
        behind = behind-term σ place l _ behind printable.identifier printable.new.0 printable.new.2;
        env = refl;
        used = refl;
      }

  kind-same : (b : Bool) → is_axiom (kind_of b) ≡ b
  kind-same true = refl
  kind-same false = refl

  assertion-step : (σ : State) (place q c : ℕ) (l f : Lexeme) (a : Assertion) → f.text ≡ math_text (formula_of v a.conclusion) → IsBehind v n σ
      → IsPrintable v n σ.env σ.assertion_names (record { name = l.text; decl = assertion_decl a })
      → Step σ place (assert_statement (kind_of a.is_axiom) (record { name = l; groups = binders_at q (plain_binders v 0 a.params []) }) (hyps_at c (formulas_of v a.hyps)) f) l.text (assertion_decl a)
  assertion-step σ place q c l f a text behind printable =
      let (names, (binders, (_, (are, (bounds, (claims, _)))))) = printable.legal in
      let (few, up, shorts, short) = printable.within in
      let ps : List Binder = a.params in
      let e : ps ≡ ps ++ [] = sym (append-nil ps) in
      let groups = binders_at q (plain_binders v 0 ps []) in
      let prem = hyps_at c (formulas_of v a.hyps) in
      let vs : List Variable = variables_of groups in
      let small : length ps + length {A = Binder} [] ≤ n = omega (arith, few) in
      let B : List Binder → Type 0 = λ ctx. AreBindersThere (sorts σ.env) (length ctx) ps in
      let there = subst B e names.0 in
      let nothing_there : AreBindersThere (sorts σ.env) (length (ps ++ [])) [] = All-nil (IsBinderThere (sorts σ.env) (length (ps ++ []))) in
      let no_dummies : All IsDummy [] = All-nil IsDummy in
      let no_sorts : All (λ b. MayBeDummySort (sorts σ.env) b.sort) [] = All-nil (λ b. MayBeDummySort (sorts σ.env) b.sort) in
      let R : List Binder → Type 0 = λ ctx. RightOver σ ctx (more a.conclusion a.hyps) in
      let right : RightOver σ (ps ++ []) (more a.conclusion a.hyps) = subst R e (names.2, are.1, bounds.1, claims.1, short, right-of σ ps a.hyps names.1 are.0 bounds.0 claims.0 shorts) in
      let ns = record { space = assertions; name = l } ∷ [] in
      let good = good-claims v n variables σ behind ps [] small there nothing_there binders no_dummies no_sorts up q place ns a.hyps a.conclusion c f (printable.new, tt) right text in
      let G : List Variable → List TypeText → List Stated → Type 0 = λ us ts gs. GoodBy σ place ns us (group_types groups ++ ts) [] (map stated_claim (gs ++ premise_stated prem) ++ claim f ∷ []) in
      let D : List Variable → List Stated → Type 0 = λ us gs. AreHyps σ us (gs ++ premise_stated prem) a.hyps × IsMeant σ us (claim f) a.conclusion
      × (assertion_decl a ≡ assertion_decl (record { is_axiom = is_axiom (kind_of a.is_axiom); params = param_binders σ us; hyps = a.hyps; conclusion = a.conclusion })) in
      let no_types : [] ≡ types_of prem = sym (no-types (formulas_of v a.hyps) c) in
      let no_stated : [] ≡ group_stated groups = sym (no-stated (plain_binders v 0 ps []) q) in
      let all_vs : vs ≡ vs ++ map unnamed (types_of prem) = sym (append-nil vs) ∙ ap (λ ts. vs ++ map unnamed ts) no_types in
      let declared : D vs [] = (
        hyps-meant v n variables σ behind ps [] small there nothing_there binders no_dummies no_sorts up q a.hyps c right.5,
        meant-claim v n variables σ behind ps [] small there nothing_there binders no_dummies no_sorts up q a.conclusion f text right.0 right.1 right.2 right.3 right.4,
        ap₂ (λ b xs. assertion_decl (record { is_axiom = b; params = xs; hyps = a.hyps; conclusion = a.conclusion })) (sym (kind-same a.is_axiom))
            (sym (params-same v n variables σ behind ps [] small there nothing_there binders no_dummies no_sorts up q)),
      ) in
      let stated : D (vs ++ map unnamed (types_of prem)) (group_stated groups) = subst₂ D all_vs no_stated declared in
      let G₁ : List Variable → Type 0 = λ us. G us [] [] in
      let us : List Variable = vs ++ map unnamed (types_of prem) in
      record {
        state = with_assertion σ place l (assertion_decl a);
        good = subst₂ (λ ts gs. G us ts gs) no_types no_stated (subst G₁ all_vs good);
        after = (assertion_decl a, (a.hyps, a.conclusion, stated.0, stated.1, stated.2), refl);
        behind = behind-assertion σ place l a behind;
        env = refl;
        used = refl;
      }

-- ---- plain lines

below-wide : (m n : ℕ) (xs : List ℕ) → m ≤ n → All (λ j. j < m) xs → AllBelow n xs
below-wide m n xs le all = below-all n xs (λ k d less. let b = all k d less in omega arith)

no-dummies : (v : Vocabulary) (bs : List Binder) (x : ℕ) → HaveNoDummies (plain_binders v x bs [])
no-dummies v [] x = tt
no-dummies v (b ∷ bs) x = (refl, no-dummies v bs (suc x))

pub its-dummies : (v : Vocabulary) (name : List ℕ) (d : Declaration) → HasItsDummies (line_of_decl v name d)
its-dummies v name (sort_decl m) = tt
its-dummies v name (term_decl d) = go d.form
  where
    go : (form : Form) → HasItsDummies (term_line_of v name d.signature form)
    go plain_form = no-dummies v d.signature.params 0
    go _ = tt
its-dummies v name (assertion_decl a) = no-dummies v a.params 0

module _ (v : Vocabulary) (n : ℕ) (variables : HasVariables v n) (σ : State) (behind : IsBehind v n σ) where
  names-plain : (xs : List ℕ) → AllBelow n xs → AreNames (map v.variable xs)
  names-plain [] below = tt
  names-plain (x ∷ xs) below = (variables.names x below.0, names-plain xs below.1)

  type-plain : (s : ℕ) (xs : List ℕ) → s < length (sorts σ.env) → AllBelow n xs → IsPlainType (plain_type v s xs)
  type-plain s xs less below = (behind.sort_name s less, names-plain xs below)

  dummies-plain : (ds : List Binder) (x m : ℕ) → x + length ds ≤ n → AreBindersThere (sorts σ.env) m ds → ArePlainBinders (plain_dummies v x ds)
  dummies-plain [] x m few there = tt
  dummies-plain (d ∷ ds) x m few there = ((variables.names x (omega arith), type-plain d.sort [] (there 0 d (omega arith)).0 tt), dummies-plain ds (suc x) m (omega arith) (λ k e less. there (suc k) e (omega arith)))

  binders-plain : (bs ds : List Binder) (x m : ℕ) → x + length bs + length ds ≤ n → m ≤ n → AreBindersThere (sorts σ.env) m bs → AreBindersThere (sorts σ.env) m ds → ArePlainBinders (plain_binders v x bs ds)
  binders-plain [] ds x m few le there also = dummies-plain ds x m (omega arith) also
  binders-plain (b ∷ bs) ds x m few le there also = (
    (variables.names x (omega arith), type-plain b.sort b.deps (there 0 b (omega arith)).0 (below-wide m n b.deps le (there 0 b (omega arith)).1)),
    binders-plain bs ds (suc x) m (omega arith) le (λ k e less. there (suc k) e (omega arith)) also,
  )

  formulas-plain : (es : Trees) (m : ℕ) → m ≤ n → AllInRange (signatures σ.env) m es → AreFormulas (formulas_of v es)
  formulas-plain none m le range = tt
  formulas-plain (more e es) m le range = (tokens-are v n variables σ behind m le e range.0, formulas-plain es m le range.1)

  term-plain : (name : List ℕ) (sig : Signature) (form : Form) → IsPrintable v n σ.env σ.assertion_names (record { name = name; decl = term_decl (record { signature = sig; form = form }) }) → IsPlain (term_line_of v name sig form)
  term-plain name sig plain_form printable =
      let (names, _) = printable.legal in let few = printable.within.0 in (
        printable.identifier,
        binders-plain sig.params [] 0 (length (sig.params ++ [])) (omega (arith, length-append sig.params [], few)) few names.0 names.1,
        type-plain sig.result.sort sig.result.deps names.2 (below-wide (length (sig.params ++ [])) n sig.result.deps few names.3),
      )
  term-plain name sig abstract_form printable =
      let (names, _) = printable.legal in let few = printable.within.0 in (
        printable.identifier,
        binders-plain sig.params [] 0 (length (sig.params ++ [])) (omega (arith, length-append sig.params [], few)) few names.0 names.1,
        type-plain sig.result.sort sig.result.deps names.2 (below-wide (length (sig.params ++ [])) n sig.result.deps few names.3),
        tt,
      )
  term-plain name sig (defined ds e) printable =
      let (names, _) = printable.legal in let few = printable.within.0 in (
        printable.identifier,
        binders-plain sig.params ds 0 (length (sig.params ++ ds)) (omega (arith, length-append sig.params ds, few)) few names.0 names.1,
        type-plain sig.result.sort sig.result.deps names.2 (below-wide (length (sig.params ++ ds)) n sig.result.deps few names.3),
        tokens-are v n variables σ behind (length (sig.params ++ ds)) few e names.4.0,
      )

  pub line-plain : (name : List ℕ) (d : Declaration) → IsPrintable v n σ.env σ.assertion_names (record { name = name; decl = d }) → IsPlain (line_of_decl v name d)
  line-plain name (sort_decl m) printable = printable.identifier
  line-plain name (term_decl d) printable = term-plain name d.signature d.form printable
  line-plain name (assertion_decl a) printable =
      let (names, _) = printable.legal in let few = printable.within.0 in (
        printable.identifier,
        binders-plain a.params [] 0 (length a.params) (omega (arith, few)) few names.0 (All-nil (IsBinderThere (sorts σ.env) (length a.params))),
        formulas-plain a.hyps (length a.params) few names.1,
        tokens-are v n variables σ behind (length a.params) few a.conclusion names.2,
      )

-- ---- all of them

module _ (v : Vocabulary) (n : ℕ) (variables : HasVariables v n) where
  form-step : (σ : State) (place p : ℕ) (name : List ℕ) (sig : Signature) (form : Form) → IsBehind v n σ → IsPrintable v n σ.env σ.assertion_names (record { name = name; decl = term_decl (record { signature = sig; form = form }) })
      → Step v n variables σ place (statement_at p (term_line_of v name sig form)) name (term_decl (record { signature = sig; form = form }))
  form-step σ place p name sig plain_form behind printable =
      term-step v n variables σ place (stop p (title_words TermKind name)) (colon_at p TermKind name (plain_binders v 0 sig.params [])) (lexeme_at (stop p (name_word (keyword_of TermKind) ∷ [])) (spaced_name name)) sig behind printable
  form-step σ place p name sig abstract_form behind printable =
      abstract-step v n variables σ place (stop p (title_words Definition name)) (colon_at p Definition name (plain_binders v 0 sig.params [])) (lexeme_at (stop p (name_word (keyword_of Definition) ∷ [])) (spaced_name name)) sig behind printable
  form-step σ place p name sig (defined ds e) behind printable =
      let c : ℕ = colon_at p Definition name (plain_binders v 0 sig.params ds) in
      defined-step v n variables σ place (stop p (title_words Definition name)) c (lexeme_at (stop p (name_word (keyword_of Definition) ∷ [])) (spaced_name name))
      (lexeme_at (stop (stop c (type_words (plain_type v sig.result.sort sig.result.deps))) (spaced_mark (codes "=") ∷ [])) (math_word (formula_of v e))) sig ds e refl behind printable

  pub step-of : (σ : State) (place p : ℕ) (name : List ℕ) (d : Declaration) → IsBehind v n σ → IsPrintable v n σ.env σ.assertion_names (record { name = name; decl = d })
      → Step v n variables σ place (statement_at p (line_of_decl v name d)) name d
  step-of σ place p name (sort_decl m) behind printable = sort-step v n variables σ place (lexeme_at (stop p (sort_words (modifiers_of m))) (spaced_name name)) m behind printable
  step-of σ place p name (term_decl d) behind printable = form-step σ place p name d.signature d.form behind printable
  step-of σ place p name (assertion_decl a) behind printable =
      let kind : AssertKind = kind_of a.is_axiom in
      let c : ℕ = colon_at p (Assert kind) name (plain_binders v 0 a.params []) in
      assertion-step v n variables σ place (stop p (title_words (Assert kind) name)) c (lexeme_at (stop p (name_word (keyword_of (Assert kind)) ∷ [])) (spaced_name name))
      (lexeme_at (stop c (hyps_words (formulas_of v a.hyps))) (math_word (formula_of v a.conclusion))) a refl behind printable

  abbrev statements_of : ℕ → List Named → List SpecStatement
  statements_of p [] = []
  statements_of p (d ∷ ds) = statement_at p (line_of v d) ∷ statements_of (next_line p (line_of v d)) ds

  record Stands (σ : State) (p : ℕ) (ds : List Named) : Type 0 where
    last : State
    stand : Stand σ (statements_of p ds) (lines_lexemes p (lines_of v ds)) last []
    env : last.env ≡ σ.env ++ decls_of ds
    spans : length last.spans ≡ length last.env
    plain : ArePlain (lines_of v ds)

  stands : (ds : List Named) (σ : State) (p : ℕ) → IsBehind v n σ → ArePrintable v n σ.env σ.assertion_names ds → Stands σ p ds
  stands [] σ p behind printable = record { last = σ; stand = (refl, refl); env = sym (append-nil σ.env); spans = behind.spans_many; plain = tt }
  stands (d ∷ ds) σ p behind printable =
      let l : Line = line_of v d in
      let front : List Lexeme = lexemes_at p (line_words l) in
      let step = step-of σ (place_of_first front) p d.name d.decl behind printable.0 in
      let rest = stands ds step.state (next_line p l) step.behind (subst₂ (λ e u. ArePrintable v n e u ds) (sym step.env) (sym step.used) printable.1) in
      record {
        last = rest.last;
        stand = (front, lines_lexemes (next_line p l) (lines_of v ds), step.state, refl, lines-spell p l (its-dummies v d.name d.decl), step.good, step.after, rest.stand);
        env = rest.env ∙ ap (λ e. e ++ decls_of ds) step.env ∙ append_assoc σ.env (d.decl ∷ []) (decls_of ds);
        spans = rest.spans;
        plain = (line-plain v n variables σ behind d.name d.decl printable.0, rest.plain);
      }

  pub behind-nothing : IsBehind v n nothing
  behind-nothing = record {
    sorts_many = refl;
    terms_many = refl;
    spans_many = refl;
    sort_at = λ i less. absurd (omega arith);
    term_at = λ i less. absurd (omega arith);
    sort_number = λ i less. absurd (omega arith);
    sort_name = λ i less. absurd (omega arith);
    term_found = λ i less. absurd (omega arith);
    term_name = λ i less. absurd (omega arith);
    apart = λ x i xs less. absurd (omega arith);
    delimiters = refl;
    leading = refl;
  }

pub printed-declare : PrintedSpecificationsDeclare
printed-declare v n ds variables printable =
    let all = stands v n variables ds nothing 0 (behind-nothing v n variables) printable in (
      entries_of all.last.env all.last.spans,
      (lines_lexemes 0 (lines_of v ds), statements_of v n variables 0 ds, all.last, lines-lex (lines_of v ds) all.plain, all.stand, refl),
      sym (entries-decls all.last.env all.last.spans all.spans ∙ all.env),
    )
