-- What holds of the state behind good statements holds of the state behind one more.
use Rattle.std.proofs.Common.{◌≡◌, ◌≢◌, ◌∙◌, ◌++◌, ◌+◌, ℕ, zero, suc, List, [], ◌∷◌, length, Bool, true, false, Option, Some, slice_get, Contains, ap, sym, refl, subst, inl, inr, arith, length-append}
use Rattle.std.specs.Prelude.{IsTrue, if◌then◌else◌}
use Rattle.std.proofs.lemmas.List.Elements.{Contains-push_cases}
use Rattle.std.proofs.lemmas.List.{length_push}
use Rattle.mz_base.proofs.Offered.{slice_get-append, new-first}
use Rattle.mz_base.specs.Identifiers.{is_name}
use Rattle.mz_lex.specs.Lexemes.{Lexeme}
use Rattle.mz_logic_theory.specs.Declaration.{Declaration, sorts, signatures}
use Rattle.mz_logic_theory.specs.Legality.{IsLegalDecl}
use Rattle.mz_logic_theory.proofs.Offered.{legal_push, sorts-append, signatures-append}
use Rattle.mz_lex.specs.declared.tokens.Delimiters.{Delimiters}
use Rattle.mz_math_theory.specs.declared.notation.Element.{Element}
use Rattle.mz_math_theory.specs.declared.notation.Notation.{Notation}
use Rattle.mz_math_theory.specs.declared.coercion.Coercion.{Coercion}
use Rattle.mz_math_theory.specs.declared.literal.Literal.{Literal}
use Rattle.mz_math_theory.specs.declared.literal.Literal.TheVariants.{Constant as constant, Name as name}
use Rattle.mz_math_theory.specs.declared.notation.Element.TheVariants.{Fixed as fixed}
use Rattle.mz_math_theory.specs.Notation.{Table, level_of as math_level, begins_with_slot, with_notation, with_coercion, with_delimiters, TermName}
use Rattle.mz_math_theory.specs.Clear.{IsClear}
use Rattle.mz_math_theory.specs.Coercions.{OnePath}
use Rattle.mz_math_theory.specs.Forms.{IsGeneral, General, IsElement, AreElements, IsCoercion, EachOnce, Begins}
use Rattle.mz_lex.specs.MathTokens.{IsConstant}
use Rattle.mz_math_theory.specs.Laws.{IsNoted}
use Rattle.mz_math_theory.specs.Kept.{IsTable, AreVariables}
use Rattle.mz_math_theory.proofs.Offered.{notations-keep, empty-is, name-is, coercion-is, delimiters-is, infix-one, prefix-one, general-one}
use Rattle.mz_spec_theory.specs.declared.kind.Fixity.TheVariants as fixities
use Rattle.mz_spec_theory.specs.Statement.{TypeText, Head, LiteralText, constant_literal, name_literal, TailText, SpecStatement, sort_statement, term_statement, assert_statement, definition_statement, operator_statement, coercion_statement, delimiter_statement, notation_statement}
use Rattle.mz_base.specs.Names.{IsNew}
use Rattle.mz_spec_theory.specs.View.{view}
use Rattle.mz_spec_theory.specs.State.{State, nothing, with_sort, with_term, with_assertion, with_table, scope_of, span_at, term_number}
use Rattle.mz_spec_theory.specs.Forms.{IsLiteral, AreLiterals, ArePartsOf, MakesNotation, coercion_of, level_of}
use Rattle.mz_spec_theory.specs.Formulas.{inner}
use Rattle.mz_spec_theory.specs.Declaring.{After}
use Rattle.mz_spec_theory.specs.Kept.{IsKept, IsSpelled, numbered}
use Rattle.mz_spec_theory.specs.Spec.{IsGood}
use Rattle.mz_spec_theory.proofs.Naming.{IsWritten, spelled-written, declared-written, variables-written}
use Rattle.mz_spec_theory.proofs.Places.{split-variables}
use Rattle.mz_spec_theory.proofs.Good.{good-new, good-others, good-form}
use Rattle.mz_spec_theory.proofs.Legal.{legal-written}

-- ---- lists of declarations

-- a coercion stays one over more terms
coercion-more : (env : List Declaration) (d : Declaration) (c : Coercion) → IsCoercion (signatures env) c → IsCoercion (signatures (env ++ d ∷ [])) c
coercion-more env d c (s, b, at, params, regular, from, to) =
    (s, b, ap (λ sigs. slice_get sigs c.term) (signatures-append env (d ∷ [])) ∙ slice_get-append (signatures env) (signatures (d ∷ [])) c.term s at, params, regular, from, to)

-- ---- names of terms

numbered-more : (i : ℕ) (ns : List (List ℕ)) (n : List ℕ) → numbered i (ns ++ n ∷ []) ≡ numbered i ns ++ record { name = n; term = i + length ns } ∷ []
numbered-more i [] n = let e : i ≡ i + 0 = omega arith in ap (λ k. record { name = n; term = k } ∷ []) e
numbered-more i (m ∷ ns) n =
    let e : (i + 1) + length ns ≡ i + suc (length ns) = omega arith in
    ap (λ xs. record { name = m; term = i } ∷ xs) (numbered-more (i + 1) ns n ∙ ap (λ k. numbered (i + 1) ns ++ record { name = n; term = k } ∷ []) e)

-- a new name is none of these
numbered-new : (i : ℕ) (ns : List (List ℕ)) (t : List ℕ) → IsNew ns t → (m : TermName) → Contains (numbered i ns) m → m.name ≡ t → ⊥
numbered-new i [] t new m (k, below, is) same = omega (arith, below)
numbered-new i (n ∷ ns) t new m (zero, below, is) same = (new-first n ns t new).0 (ap (λ x. x.name) is ∙ same)
numbered-new i (n ∷ ns) t new m (suc k, below, is) same = numbered-new (i + 1) ns t (new-first n ns t new).1 m (k, omega (arith, below), is) same

-- ---- one more declaration

kept-sort : (σ : State) (place : ℕ) (n : Lexeme) (d : Declaration) → IsKept σ → IsLegalDecl σ.env d → length (sorts (d ∷ [])) ≡ 1 → length (signatures (d ∷ [])) ≡ 0 → IsKept (with_sort σ place n d)
kept-sort σ place n d kept legal one none = record {
  sorts = let a = length_push σ.sort_names n.text in let b = ap length (sorts-append σ.env (d ∷ [])) in let c = length-append (sorts σ.env) (sorts (d ∷ [])) in let k = kept.sorts in omega (arith, a, b, c, k, one);
  terms = let b = ap length (signatures-append σ.env (d ∷ [])) in let c = length-append (signatures σ.env) (signatures (d ∷ [])) in let k = kept.terms in omega (arith, b, c, k, none);
  spans = let a = length-append σ.spans (span_at place n ∷ []) in let b = length_push σ.env d in let k = kept.spans in omega (arith, a, b, k);
  legal = legal_push σ.env d kept.legal legal;
  table = kept.table;
  names = kept.names;
  coercions = λ c has. coercion-more σ.env d c (kept.coercions c has);
}

kept-assertion : (σ : State) (place : ℕ) (n : Lexeme) (d : Declaration) → IsKept σ → IsLegalDecl σ.env d → length (sorts (d ∷ [])) ≡ 0 → length (signatures (d ∷ [])) ≡ 0 → IsKept (with_assertion σ place n d)
kept-assertion σ place n d kept legal none also = record {
  sorts = let b = ap length (sorts-append σ.env (d ∷ [])) in let c = length-append (sorts σ.env) (sorts (d ∷ [])) in let k = kept.sorts in omega (arith, b, c, k, none);
  terms = let b = ap length (signatures-append σ.env (d ∷ [])) in let c = length-append (signatures σ.env) (signatures (d ∷ [])) in let k = kept.terms in omega (arith, b, c, k, also);
  spans = let a = length-append σ.spans (span_at place n ∷ []) in let b = length_push σ.env d in let k = kept.spans in omega (arith, a, b, k);
  legal = legal_push σ.env d kept.legal legal;
  table = kept.table;
  names = kept.names;
  coercions = λ c has. coercion-more σ.env d c (kept.coercions c has);
}

kept-term : (σ : State) (place : ℕ) (n : Lexeme) (d : Declaration) → IsKept σ → IsLegalDecl σ.env d → IsTrue (is_name n.text) → IsNew σ.term_names n.text
    → length (sorts (d ∷ [])) ≡ 0 → length (signatures (d ∷ [])) ≡ 1 → IsKept (with_term σ place n d)
kept-term σ place n d kept legal named new none one = record {
  sorts = let b = ap length (sorts-append σ.env (d ∷ [])) in let c = length-append (sorts σ.env) (sorts (d ∷ [])) in let k = kept.sorts in omega (arith, b, c, k, none);
  terms = let a = length_push σ.term_names n.text in let b = ap length (signatures-append σ.env (d ∷ [])) in let c = length-append (signatures σ.env) (signatures (d ∷ [])) in let k = kept.terms in omega (arith, a, b, c, k, one);
  spans = let a = length-append σ.spans (span_at place n ∷ []) in let b = length_push σ.env d in let k = kept.spans in omega (arith, a, b, k);
  legal = legal_push σ.env d kept.legal legal;
  table = name-is σ.table (record { name = n.text; term = length σ.term_names }) kept.table named (λ m has same. numbered-new 0 σ.term_names n.text new m (subst (λ xs. Contains xs m) kept.names has) same);
  names = ap (λ xs. xs ++ record { name = n.text; term = length σ.term_names } ∷ []) kept.names
      ∙ sym (numbered-more 0 σ.term_names n.text ∙ (let e : 0 + length σ.term_names ≡ length σ.term_names = omega arith in ap (λ k. numbered 0 σ.term_names ++ record { name = n.text; term = k } ∷ []) e));
  coercions = λ c has. coercion-more σ.env d c (kept.coercions c has);
}

-- ---- another table

kept-table : (σ : State) (t : Table) → IsKept σ → IsTable t → t.names ≡ σ.table.names → ((c : Coercion) → Contains t.coercions c → IsCoercion (signatures σ.env) c) → IsKept (with_table σ t)
kept-table σ t kept is names typed =
    record { sorts = kept.sorts; terms = kept.terms; spans = kept.spans; legal = kept.legal; table = is; names = names ∙ kept.names; coercions = typed }

notation-names : (t : Table) (k : Notation) → ((with_notation t k).names ≡ t.names) × ((with_notation t k).coercions ≡ t.coercions)
notation-names t k = go (begins_with_slot k.elements)
  where
    go : (b : Bool) → ((if b then record t { infixes = t.infixes ++ k ∷ [] } else record t { leading = t.leading ++ k ∷ [] }).names ≡ t.names)
        × ((if b then record t { infixes = t.infixes ++ k ∷ [] } else record t { leading = t.leading ++ k ∷ [] }).coercions ≡ t.coercions)
    go true = (refl, refl)
    go false = (refl, refl)

-- ---- a statement makes one notation

-- spans of whatever text that holds the literals stand for the same elements
literal-other : (d : Delimiters) (names : List (List ℕ)) (text other : List ℕ) (l : LiteralText) (k j : Literal) (e : Element) → IsLiteral text l k → IsLiteral other l j → IsElement d names text k e → IsElement d names other j e
literal-other d names text other (constant_literal c level) (constant from to n) (constant begin end m) e (span, bytes, is) (span_o, bytes_o, is_o) (w, _, constant_w, same) =
    (w, span_o, subst (λ b. IsConstant d b w) (bytes ∙ sym bytes_o) constant_w, subst (λ q. e ≡ fixed w (math_level q)) (is ∙ sym is_o) same)
literal-other d names text other (constant_literal c level) (constant from to n) (name begin end) e lit absent is = absurd absent
literal-other d names text other (constant_literal c level) (name from to) j e absent lit is = absurd absent
literal-other d names text other (name_literal n) (constant from to q) j e absent lit is = absurd absent
literal-other d names text other (name_literal n) (name from to) (constant begin end q) e lit absent is = absurd absent
literal-other d names text other (name_literal n) (name from to) (name begin end) e (span, bytes) (span_o, bytes_o) (i, _, some, at, same) =
    let turned = bytes ∙ sym bytes_o in
    (i, span_o, subst (λ b. b ≢ []) turned some, subst (λ b. slice_get names i ≡ Some b) turned at, same)

elements-other : (d : Delimiters) (names : List (List ℕ)) (text other : List ℕ) (ls : List LiteralText) (ks js : List Literal) (es : List Element)
    → AreLiterals text ls ks → AreLiterals other ls js → AreElements d names text ks es → AreElements d names other js es
elements-other d names text other [] [] [] es lits others are = are
elements-other d names text other [] [] (j ∷ js) es lits others are = absurd others
elements-other d names text other [] (k ∷ ks) js es lits others are = absurd lits
elements-other d names text other (l ∷ ls) [] js es lits others are = absurd lits
elements-other d names text other (l ∷ ls) (k ∷ ks) [] es lits others are = absurd others
elements-other d names text other (l ∷ ls) (k ∷ ks) (j ∷ js) [] lits others are = absurd are
elements-other d names text other (l ∷ ls) (k ∷ ks) (j ∷ js) (e ∷ es) (lit, lits) (lit_o, others) (is, are) =
    (literal-other d names text other l k j e lit lit_o is, elements-other d names text other ls ks js es lits others are)

-- two lists of parts of one statement make the same notation
pub general-other : (σ : State) (h : Head) (t : TypeText) (ls : List LiteralText) (tail : Option TailText) (f g : General) (k : Notation)
    → ArePartsOf σ h t ls tail f → ArePartsOf σ h t ls tail g → IsGeneral (signatures σ.env) σ.table.delimiters f k → IsGeneral (signatures σ.env) σ.table.delimiters g k
general-other σ h t ls tail f g k (term_f, names_f, binders_f, result_f, lits_f, tail_f) (term_g, names_g, binders_g, result_g, lits_g, tail_g) is = record {
  term = is.term ∙ term_f ∙ sym term_g;
  signature = subst (λ n. slice_get (signatures σ.env) n ≡ Some (record { params = g.binders; result = g.result })) (term_f ∙ sym term_g)
      (is.signature ∙ ap (λ bs. Some (record { params = bs; result = f.result })) (binders_f ∙ sym binders_g) ∙ ap (λ r. Some (record { params = g.binders; result = r })) (result_f ∙ sym result_g));
  elements = subst (λ ns. AreElements σ.table.delimiters ns g.text g.literals k.elements) (names_f ∙ sym names_g)
      (elements-other σ.table.delimiters f.names f.text g.text ls f.literals g.literals k.elements lits_f lits_g is.elements);
  once = subst (λ bs. EachOnce (length bs) k.elements) (binders_f ∙ sym binders_g) is.once;
  begins = subst (λ q. Begins k.elements q k.level k.is_right) (tail_f ∙ sym tail_g) is.begins;
}

pub makes-one : (σ : State) (s : SpecStatement) → AreVariables (scope_of σ (view s).variables).names → (k l : Notation) → MakesNotation σ s k → MakesNotation σ s l → k ≡ l
makes-one σ (sort_statement m n) vars k l a b = absurd a
makes-one σ (term_statement h ts t) vars k l a b = absurd a
makes-one σ (assert_statement q h ps c) vars k l a b = absurd a
makes-one σ (definition_statement h t c) vars k l a b = absurd a
makes-one σ (operator_statement fixities.InfixLeft n c level) vars k l a b = infix-one (signatures σ.env) σ.table.delimiters (term_number σ n) (inner c) (level_of level) false k l a b
makes-one σ (operator_statement fixities.InfixRight n c level) vars k l a b = infix-one (signatures σ.env) σ.table.delimiters (term_number σ n) (inner c) (level_of level) true k l a b
makes-one σ (operator_statement fixities.Prefix n c level) vars k l a b = prefix-one (signatures σ.env) σ.table.delimiters (term_number σ n) (inner c) (level_of level) k l a b
makes-one σ (coercion_statement n from to) vars k l a b = absurd a
makes-one σ (delimiter_statement left right) vars k l a b = absurd a
makes-one σ (notation_statement h t ls last tail) vars k l (f, parts_f, is_f) (g, parts_g, is_g) =
    general-one (signatures σ.env) σ.table.delimiters g (subst AreVariables (sym parts_g.1) vars).distinct k l (general-other σ h t (ls ++ last ∷ []) tail f g k parts_f parts_g is_f) is_g

makes-noted : (σ : State) (s : SpecStatement) (k : Notation) → MakesNotation σ s k → IsNoted (signatures σ.env) σ.table.delimiters k
makes-noted σ (sort_statement m n) k a = absurd a
makes-noted σ (term_statement h ts t) k a = absurd a
makes-noted σ (assert_statement q h ps c) k a = absurd a
makes-noted σ (definition_statement h t c) k a = absurd a
makes-noted σ (operator_statement fixities.InfixLeft n c level) k a = inl (term_number σ n, inner c, level_of level, false, a)
makes-noted σ (operator_statement fixities.InfixRight n c level) k a = inl (term_number σ n, inner c, level_of level, true, a)
makes-noted σ (operator_statement fixities.Prefix n c level) k a = inr (inl (term_number σ n, inner c, level_of level, a))
makes-noted σ (coercion_statement n from to) k a = absurd a
makes-noted σ (delimiter_statement left right) k a = absurd a
makes-noted σ (notation_statement h t ls last tail) k (g, parts, is) = inr (inr (g, is))

-- ---- the state after a good statement

module _ (σ : State) (place : ℕ) (kept : IsKept σ) where
  -- with a notation that a statement makes, where the table stays clear
  kept-notation : (s : SpecStatement) (k l : Notation) → AreVariables (scope_of σ (view s).variables).names → MakesNotation σ s k → MakesNotation σ s l → IsClear (with_notation σ.table l).leading (with_notation σ.table l).infixes
      → IsKept (with_table σ (with_notation σ.table k))
  kept-notation s k l vars makes other clear =
      let same = makes-one σ s vars l k other makes in
      let names = notation-names σ.table k in
      kept-table σ (with_notation σ.table k) kept
      (notations-keep σ.table (signatures σ.env) k kept.table (makes-noted σ s k makes) (subst (λ x. IsClear (with_notation σ.table x).leading (with_notation σ.table x).infixes) same clear))
      names.0 (λ c has. kept.coercions c (subst (λ cs. Contains cs c) names.1 has))

  kept-coercion : (c : Coercion) → IsCoercion (signatures σ.env) c → OnePath (σ.table.coercions ++ c ∷ []) → IsKept (with_table σ (with_coercion σ.table c))
  kept-coercion c is one =
      kept-table σ (with_coercion σ.table c) kept (coercion-is σ.table c kept.table one) refl
      (λ e has. elim (Contains-push_cases σ.table.coercions c e has) [ inl old ↦ kept.coercions e old | inr same ↦ subst (IsCoercion (signatures σ.env)) same is ])

  pub kept-written : (s : SpecStatement) (τ : State) → IsWritten s → IsGood σ place s → After σ place s τ → IsKept τ
  kept-written (sort_statement m n) τ spelled (tokens, cut, good) (d, is, same) =
      let legal = legal-written σ place kept (sort_statement m n) d tokens spelled good is in
      subst IsKept (sym same) (kept-sort σ place n d kept legal (ap (λ x. length (sorts (x ∷ []))) is) (ap (λ x. length (signatures (x ∷ []))) is))
  kept-written (term_statement h ts t) τ spelled (tokens, cut, good) (d, is, same) =
      let legal = legal-written σ place kept (term_statement h ts t) d tokens spelled good is in
      subst IsKept (sym same)
      (kept-term σ place h.name d kept legal (declared-written (term_statement h ts t) spelled).0 (good-new σ place (term_statement h ts t) tokens good).0
      (ap (λ x. length (sorts (x ∷ []))) is) (ap (λ x. length (signatures (x ∷ []))) is))
  kept-written (assert_statement k h ps c) τ spelled (tokens, cut, good) (d, is, same) =
      let legal = legal-written σ place kept (assert_statement k h ps c) d tokens spelled good is in
      subst IsKept (sym same) (kept-assertion σ place h.name d kept legal (ap (λ x. length (sorts (x ∷ []))) is.4) (ap (λ x. length (signatures (x ∷ []))) is.4))
  kept-written (definition_statement h t b) τ spelled (tokens, cut, good) (d, is, same) =
      let legal = legal-written σ place kept (definition_statement h t b) d tokens spelled good is in
      subst IsKept (sym same)
      (kept-term σ place h.name d kept legal (declared-written (definition_statement h t b) spelled).0 (good-new σ place (definition_statement h t b) tokens good).0
      (ap (λ x. length (sorts (x ∷ []))) is.2) (ap (λ x. length (signatures (x ∷ []))) is.2))
  kept-written (operator_statement f n c l) τ spelled (tokens, cut, good) (u, (k, makes, is), same) =
      let s = operator_statement f n c l in
      let form = good-form σ place s tokens good in
      let vars = split-variables (view s).variables (good-others σ place s tokens good) (variables-written s spelled) in
      subst IsKept (sym (same ∙ ap (with_table σ) is)) (kept-notation s k form.1.0.0 vars makes form.1.0.1 form.1.0.2)
  kept-written (coercion_statement n from to) τ spelled (tokens, cut, good) (u, is, same) =
      let form = good-form σ place (coercion_statement n from to) tokens good in
      subst IsKept (sym (same ∙ ap (with_table σ) is)) (kept-coercion (coercion_of σ n from to) form.0 form.1.0)
  kept-written (delimiter_statement left right) τ spelled (tokens, cut, good) (u, (d, are, is), same) =
      subst IsKept (sym (same ∙ ap (with_table σ) is)) (kept-table σ (with_delimiters σ.table d) kept (delimiters-is σ.table d kept.table) refl kept.coercions)
  kept-written (notation_statement h t ls last tail) τ spelled (tokens, cut, good) (u, (k, makes, is), same) =
      let s = notation_statement h t ls last tail in
      let form = good-form σ place s tokens good in
      let vars = split-variables (view s).variables (good-others σ place s tokens good) (variables-written s spelled) in
      subst IsKept (sym (same ∙ ap (with_table σ) is)) (kept-notation s k form.1.0.0 vars makes form.1.0.1 form.1.0.2)

  -- the same of lexemes of a text
  pub kept-after : (s : SpecStatement) (τ : State) → IsSpelled s → IsGood σ place s → After σ place s τ → IsKept τ
  kept-after s τ spelled good after = kept-written s τ (spelled-written s spelled) good after

pub kept-nothing : IsKept nothing
kept-nothing = record { sorts = refl; terms = refl; spans = refl; legal = tt; table = empty-is; names = refl; coercions = λ c has. absurd (let below = has.1 in omega (arith, below)) }
