-- How statements on notations are judged by their parts.
use Rattle.std.proofs.Common.{◌≡◌, ◌∙◌, ◌++◌, ℕ, List, [], ◌∷◌, map, OnOk, Bool, Option, Result, Ok, Err, ap, sym, refl, subst, inl, inr}
use Rattle.std.specs.Prelude.{option_map}
use Rattle.mz_lex.specs.Lexemes.{Lexeme}
use Rattle.mz_base.specs.Checks.{Checks, nothing, each_in_order, ◌>>◌, retold, AllHold, FailsFirst}
use Rattle.mz_base.proofs.Offered.{fails-before, fails-after, all_hold-both, retold-fails, retold-holds}
use Rattle.mz_logic_theory.specs.Declaration.{signatures}
use Rattle.mz_logic_theory.specs.Signature.{Signature}
use Rattle.mz_lex.specs.declared.tokens.Delimiters.{Delimiters}
use Rattle.mz_lex.specs.declared.tokens.MathToken.{MathToken}
use Rattle.mz_math_theory.specs.declared.coercion.Coercion.{Coercion}
use Rattle.mz_math_theory.specs.declared.notation.Notation.{Notation}
use Rattle.mz_math_theory.specs.declared.fault.NoteFault.{NoteFault}
use Rattle.mz_math_theory.specs.declared.fault.NoteFault.TheVariants as faults
use Rattle.mz_math_theory.specs.Notation.{Table, with_coercion}
use Rattle.mz_math_theory.specs.Forms.{IsInfix, IsPrefix, IsGeneral, General, coercion_checks, notation_checks, IsAnswer, AddsDelimiters, AddsNotation}
use Rattle.mz_math_theory.specs.Kept.{AreVariables}
use Rattle.mz_spec_theory.specs.declared.kind.Fixity.{Fixity}
use Rattle.mz_spec_theory.specs.declared.refusal.Fault.{Fault}
use Rattle.mz_spec_theory.specs.declared.refusal.Halt.{Halt}
use Rattle.mz_spec_theory.specs.declared.refusal.Halt.TheVariants as halts
use Rattle.mz_spec_theory.specs.Reading.{OnFault}
use Rattle.mz_spec_theory.specs.Statement.{TypeText, Head, Level, LiteralText, TailText, SpecStatement, coercion_statement, delimiter_statement, operator_statement, notation_statement}
use Rattle.mz_spec_rules.specs.Answers.{JudgesOrMem, JudgesStatement}
use Rattle.mz_spec_theory.specs.Formulas.{AreTokens, inner}
use Rattle.mz_spec_theory.specs.Forms.{ArePartsOf, MakesOperator, MakesNotation, at_statement, coercion_of, form_checks}
use Rattle.mz_spec_notations.specs.Noting.{halt_of}
use Rattle.mz_spec_rules.specs.Noting.{noting_rules}
use Rattle.mz_spec_theory.specs.Dependencies.{Every}
use Rattle.mz_spec_theory.specs.Rules.{is_level, is_known, are_others, type_checks, binder_rules, statement_checks}
use Rattle.mz_spec_rules.specs.Entries.{names_alone}
use Rattle.mz_spec_theory.specs.State.{State, sort_number, term_number, variable_bytes}
use Rattle.mz_spec_variables.specs.Code.{AreParts, variable}
use Rattle.mz_spec_theory.specs.Declaring.{After}
use Rattle.mz_spec_variables.specs.declared.parts.Parts.{Parts}
use Rattle.mz_spec_theory.specs.View.{Variable, alone, params_of, variables_of, group_types, names_of, literal_levels, tail_levels}
use Rattle.mz_spec_theory.proofs.Offered.{assoc, fails-front, judges-behind, mem-before, mem-after, IsNamed, split-variables, general-other}
use Rattle.mz_spec_rules.proofs.Offered.{over_table, same-names, notation-same, delimiters-same}

-- ---- statements without formulas

no-tokens : (σ : State) (tokens : List (List MathToken)) → AreTokens σ [] tokens → tokens ≡ []
no-tokens σ [] are = refl
no-tokens σ (ps ∷ pss) are = absurd are

-- ---- answers of the table

pub infix-answer : {A : Type 0} → (r : Result A NoteFault) (t : Table) (sigs : List Signature) (d : Delimiters) (n m : ℕ) (b c : List ℕ) (l q : Option ℕ) (right : Bool) → n ≡ m → b ≡ c → l ≡ q
    → IsAnswer r (notation_checks t (IsInfix sigs d n b l right)) → IsAnswer r (notation_checks t (IsInfix sigs d m c q right))
infix-answer r t sigs d n m b c l q right x y z is =
    subst (λ q. IsAnswer r (notation_checks t (IsInfix sigs d m c q right))) z (subst (λ c. IsAnswer r (notation_checks t (IsInfix sigs d m c l right))) y (subst (λ m. IsAnswer r (notation_checks t (IsInfix sigs d m b l right))) x is))

pub prefix-answer : {A : Type 0} → (r : Result A NoteFault) (t : Table) (sigs : List Signature) (d : Delimiters) (n m : ℕ) (b c : List ℕ) (l q : Option ℕ) → n ≡ m → b ≡ c → l ≡ q
    → IsAnswer r (notation_checks t (IsPrefix sigs d n b l)) → IsAnswer r (notation_checks t (IsPrefix sigs d m c q))
prefix-answer r t sigs d n m b c l q x y z is =
    subst (λ q. IsAnswer r (notation_checks t (IsPrefix sigs d m c q))) z (subst (λ c. IsAnswer r (notation_checks t (IsPrefix sigs d m c l))) y (subst (λ m. IsAnswer r (notation_checks t (IsPrefix sigs d m b l))) x is))

pub operator-answer : {A : Type 0} → (r : Result A NoteFault) (σ : State) (f g : Fixity) (n c : Lexeme) (level : Level) → f ≡ g → IsAnswer r (notation_checks σ.table (MakesOperator σ g n c level)) → IsAnswer r (notation_checks σ.table (MakesOperator σ f n c level))
operator-answer r σ f g n c level same is = subst (λ h. IsAnswer r (notation_checks σ.table (MakesOperator σ h n c level))) (sym same) is

-- ---- what the table has then

pub infix-after : {A : Type 0} → (r : Result A NoteFault) (t u : Table) (sigs : List Signature) (d : Delimiters) (n m : ℕ) (b c : List ℕ) (l q : Option ℕ) (right : Bool) → n ≡ m → b ≡ c → l ≡ q
    → OnOk r (AddsNotation t (IsInfix sigs d n b l right) u) → OnOk r (AddsNotation t (IsInfix sigs d m c q right) u)
infix-after r t u sigs d n m b c l q right x y z is =
    subst (λ q. OnOk r (AddsNotation t (IsInfix sigs d m c q right) u)) z (subst (λ c. OnOk r (AddsNotation t (IsInfix sigs d m c l right) u)) y (subst (λ m. OnOk r (AddsNotation t (IsInfix sigs d m b l right) u)) x is))

pub prefix-after : {A : Type 0} → (r : Result A NoteFault) (t u : Table) (sigs : List Signature) (d : Delimiters) (n m : ℕ) (b c : List ℕ) (l q : Option ℕ) → n ≡ m → b ≡ c → l ≡ q
    → OnOk r (AddsNotation t (IsPrefix sigs d n b l) u) → OnOk r (AddsNotation t (IsPrefix sigs d m c q) u)
prefix-after r t u sigs d n m b c l q x y z is =
    subst (λ q. OnOk r (AddsNotation t (IsPrefix sigs d m c q) u)) z (subst (λ c. OnOk r (AddsNotation t (IsPrefix sigs d m c l) u)) y (subst (λ m. OnOk r (AddsNotation t (IsPrefix sigs d m b l) u)) x is))

pub operator-after : {A : Type 0} → (r : Result A NoteFault) (σ : State) (u : Table) (f g : Fixity) (n c : Lexeme) (level : Level) → σ.term_names ≡ names_alone σ.table.names → f ≡ g
    → OnOk r (AddsNotation σ.table (MakesOperator σ g n c level) u) → OnOk r (After σ 0 (operator_statement f n c level) (over_table σ u))
operator-after (Ok a) σ u f g n c level alone same adds =
    (u, subst (λ h. AddsNotation σ.table (MakesOperator σ h n c level) u) (sym same) adds, same-names σ u (ap names_alone (notation-same σ.table u (MakesOperator σ g n c level) adds) ∙ sym alone))
operator-after (Err e) σ u f g n c level alone same adds = tt

pub coercion-after : (σ : State) (place : ℕ) (u : Table) (n from to : Lexeme) (c : Coercion) → σ.term_names ≡ names_alone σ.table.names → c ≡ coercion_of σ n from to → u ≡ with_coercion σ.table c
    → After σ place (coercion_statement n from to) (over_table σ u)
coercion-after σ place u n from to c alone same is =
    (u, is ∙ ap (with_coercion σ.table) same, same-names σ u (ap (λ (v : Table). names_alone v.names) is ∙ sym alone))

pub delimiter-after : (σ : State) (place : ℕ) (u : Table) (left : Lexeme) (right : Option Lexeme) (l : List ℕ) (r : Option (List ℕ)) → σ.term_names ≡ names_alone σ.table.names → l ≡ inner left → r ≡ option_map inner right
    → AddsDelimiters σ.table l r u → After σ place (delimiter_statement left right) (over_table σ u)
delimiter-after σ place u left right l r alone first second adds =
    (u, subst (λ o. AddsDelimiters σ.table (inner left) o u) second (subst (λ w. AddsDelimiters σ.table w r u) first adds), same-names σ u (ap names_alone (delimiters-same σ.table u l r adds) ∙ sym alone))

-- a fault of the table, behind what holds
table-halt : (place : ℕ) (cs : Checks NoteFault) (fault : NoteFault) (before : Checks Fault) → AllHold before → IsAnswer {A = ℕ} (Err fault) cs → OnFault (halt_of place fault) (FailsFirst (before >> retold (at_statement place) cs))
table-halt place cs faults.Form before all is = fails-after before _ (at_statement place faults.Form) all (retold-fails (at_statement place) cs faults.Form is)
table-halt place cs faults.Clash before all is = fails-after before _ (at_statement place faults.Clash) all (retold-fails (at_statement place) cs faults.Clash is)
table-halt place cs faults.CoercionClash before all is = fails-after before _ (at_statement place faults.CoercionClash) all (retold-fails (at_statement place) cs faults.CoercionClash is)
table-halt place cs faults.Mem before all is = tt

-- ---- operators

module _ (σ : State) (place : ℕ) (f : Fixity) (n c : Lexeme) (level : Level) where
  abbrev operator : SpecStatement
  operator = operator_statement f n c level

  -- no tokens
  judged-operator : {A : Type 0} → (r : Result A Halt) → JudgesOrMem r (statement_checks σ place operator []) → JudgesStatement r σ place operator
  judged-operator r is tokens are = subst (λ ts. JudgesOrMem r (statement_checks σ place operator ts)) (sym (no-tokens σ tokens are)) is

  abbrev first : Checks Fault
  first = each_in_order is_level (level ∷ []) >> (is_known σ.term_names n >> binder_rules σ place [] [])

  abbrev operator_form : Checks Fault
  operator_form = form_checks σ place operator

  same : statement_checks σ place operator [] ≡ (first >> operator_form)
  same = sym (assoc (each_in_order is_level (level ∷ [])) (is_known σ.term_names n >> binder_rules σ place [] []) operator_form)

  turned : {A : Type 0} → (r : Result A Halt) → JudgesOrMem r (first >> operator_form) → JudgesStatement r σ place operator
  turned r is = judged-operator r (subst (JudgesOrMem r) (sym same) is)

  levels-hold : AllHold (is_level level) → AllHold (each_in_order is_level (level ∷ []))
  levels-hold all = all_hold-both (is_level level) nothing all tt

  first-holds : AllHold (is_level level) → AllHold (is_known σ.term_names n) → AllHold first
  first-holds all known = all_hold-both (each_in_order is_level (level ∷ [])) (is_known σ.term_names n >> binder_rules σ place [] []) (levels-hold all) (all_hold-both (is_known σ.term_names n) (binder_rules σ place [] []) known ((tt, tt, tt), (tt, (tt, tt))))

  pub operator-level : (A : Type 0) → (fault : Fault) → FailsFirst (is_level level) fault → JudgesStatement {A = A} (Err (halts.Fault fault)) σ place operator
  operator-level A fault fails =
      turned {A = A} (Err (halts.Fault fault)) (fails-before first operator_form fault (fails-before (each_in_order is_level (level ∷ [])) (is_known σ.term_names n >> binder_rules σ place [] []) fault (fails-before (is_level level) nothing fault fails)))

  pub operator-known : (A : Type 0) → (fault : Fault) → AllHold (is_level level) → FailsFirst (is_known σ.term_names n) fault → JudgesStatement {A = A} (Err (halts.Fault fault)) σ place operator
  operator-known A fault all fails =
      turned {A = A} (Err (halts.Fault fault)) (fails-before first operator_form fault (fails-after (each_in_order is_level (level ∷ [])) (is_known σ.term_names n >> binder_rules σ place [] []) fault (levels-hold all) (fails-before (is_known σ.term_names n) (binder_rules σ place [] []) fault fails)))

  pub operator-fault : (A : Type 0) → (fault : NoteFault) → AllHold (is_level level) → AllHold (is_known σ.term_names n) → IsAnswer {A = ℕ} (Err fault) (notation_checks σ.table (MakesNotation σ operator))
      → JudgesStatement {A = A} (Err (halt_of place fault)) σ place operator
  operator-fault A fault all known is = turned {A = A} (Err (halt_of place fault)) (table-halt place (notation_checks σ.table (MakesNotation σ operator)) fault first (first-holds all known) is)

  pub operator-holds : (A : Type 0) → (a : A) → AllHold (is_level level) → AllHold (is_known σ.term_names n) → AllHold (notation_checks σ.table (MakesNotation σ operator)) → JudgesStatement {A = A} (Ok a) σ place operator
  operator-holds A a all known is =
      turned {A = A} (Ok a) (all_hold-both first operator_form (first-holds all known) (retold-holds (at_statement place) (notation_checks σ.table (MakesNotation σ operator)) is))

-- ---- coercions

pub coercion-is : (σ : State) (n from to : Lexeme) (t a b : ℕ) → t ≡ term_number σ n → a ≡ sort_number σ (alone from) → b ≡ sort_number σ (alone to)
    → coercion_of σ n from to ≡ record { term = t; from = a; to = b }
coercion-is σ n from to t a b x y z =
    let make : ℕ → ℕ → ℕ → Coercion = λ t a b. record { term = t; from = a; to = b } in
    sym (ap (λ t. make t a b) x ∙ ap (λ a. make (term_number σ n) a b) y ∙ ap (make (term_number σ n) (sort_number σ (alone from))) z)

module _ (σ : State) (place : ℕ) (n from to : Lexeme) where
  abbrev coercion : SpecStatement
  coercion = coercion_statement n from to

  abbrev made_checks : Checks NoteFault
  made_checks = coercion_checks (signatures σ.env) σ.table (coercion_of σ n from to)

  abbrev pub known_checks : Checks Fault
  known_checks = is_known σ.term_names n >> (is_known σ.sort_names from >> is_known σ.sort_names to)

  abbrev named : Checks Fault
  named = known_checks >> binder_rules σ place [] []

  judged-coercion : {A : Type 0} → (r : Result A Halt) → JudgesOrMem r (named >> retold (at_statement place) made_checks) → JudgesStatement r σ place coercion
  judged-coercion r is tokens are = subst (λ ts. JudgesOrMem r (statement_checks σ place coercion ts)) (sym (no-tokens σ tokens are)) is

  named-holds : AllHold known_checks → AllHold named
  named-holds known = all_hold-both known_checks (binder_rules σ place [] []) known ((tt, tt, tt), (tt, (tt, tt)))

  pub coercion-known : (A : Type 0) → (fault : Fault) → FailsFirst known_checks fault → JudgesStatement {A = A} (Err (halts.Fault fault)) σ place coercion
  coercion-known A fault fails =
      judged-coercion {A = A} (Err (halts.Fault fault)) (fails-before named (retold (at_statement place) made_checks) fault (fails-before known_checks (binder_rules σ place [] []) fault fails))

  pub coercion-fault : (A : Type 0) → (fault : NoteFault) → AllHold known_checks → IsAnswer {A = ℕ} (Err fault) made_checks → JudgesStatement {A = A} (Err (halt_of place fault)) σ place coercion
  coercion-fault A fault known is = judged-coercion {A = A} (Err (halt_of place fault)) (table-halt place made_checks fault named (named-holds known) is)

  pub coercion-holds : (A : Type 0) → (a : A) → AllHold known_checks → AllHold made_checks → JudgesStatement {A = A} (Ok a) σ place coercion
  coercion-holds A a known is = judged-coercion {A = A} (Ok a) (all_hold-both named (retold (at_statement place) made_checks) (named-holds known) (retold-holds (at_statement place) made_checks is))

-- ---- general notations

module _ (σ : State) (place : ℕ) (h : Head) (t : TypeText) (ls : List LiteralText) (last : LiteralText) (o : Option TailText) where
  abbrev general : SpecStatement
  general = notation_statement h t ls last o

  judged-general : {A : Type 0} → (r : Result A Halt) → JudgesOrMem r (statement_checks σ place general []) → JudgesStatement r σ place general
  judged-general r is tokens are = subst (λ ts. JudgesOrMem r (statement_checks σ place general ts)) (sym (no-tokens σ tokens are)) is

  abbrev literal_checks : Checks Fault
  literal_checks = each_in_order is_level (literal_levels (ls ++ last ∷ []))

  abbrev tail_checks : Checks Fault
  tail_checks = each_in_order is_level (tail_levels o)

  abbrev level_checks : Checks Fault
  level_checks = each_in_order is_level (literal_levels (ls ++ last ∷ []) ++ tail_levels o)

  abbrev rules : Checks Fault
  rules = noting_rules σ place h.name (variables_of h.groups) (group_types h.groups ++ t ∷ []) (t ∷ [])

  abbrev general_form : Checks Fault
  general_form = form_checks σ place general

  abbrev types_part : Checks Fault
  types_part = each_in_order (type_checks σ (names_of (variables_of h.groups))) (group_types h.groups ++ t ∷ [])

  abbrev binders_part : Checks Fault
  binders_part = binder_rules σ place (variables_of h.groups) (t ∷ [])

  rules-first : (rules >> general_form) ≡ (are_others [] (variables_of h.groups) >> ((is_known σ.term_names h.name >> types_part) >> (binders_part >> general_form)))
  rules-first =
      assoc (are_others [] (variables_of h.groups) >> (is_known σ.term_names h.name >> types_part)) binders_part general_form
      ∙ assoc (are_others [] (variables_of h.groups)) (is_known σ.term_names h.name >> types_part) (binders_part >> general_form)

  same-general : statement_checks σ place general [] ≡ (level_checks >> (rules >> general_form))
  same-general = ap (λ cs. level_checks >> cs) (sym rules-first)

  turned-general : {A : Type 0} → (r : Result A Halt) → JudgesOrMem r (level_checks >> (rules >> general_form)) → JudgesStatement r σ place general
  turned-general r is = judged-general r (subst (JudgesOrMem r) (sym same-general) is)

  front-halt : (halt : Halt) → OnFault halt (FailsFirst literal_checks) → OnFault halt (FailsFirst level_checks)
  front-halt (halts.Fault fault) fails = fails-front is_level (literal_levels (ls ++ last ∷ [])) (tail_levels o) fault fails
  front-halt halts.Mem fails = tt

  level-holds : AllHold literal_checks → AllHold tail_checks → AllHold level_checks
  level-holds all more = let r : Result ℕ Fault = Ok 0 in judges-behind is_level (literal_levels (ls ++ last ∷ [])) (tail_levels o) r all more

  pub general-literals : (A : Type 0) → (halt : Halt) → OnFault halt (FailsFirst literal_checks) → JudgesStatement {A = A} (Err halt) σ place general
  general-literals A halt fails = turned-general {A = A} (Err halt) (mem-before level_checks (rules >> general_form) halt (front-halt halt fails))

  pub general-tail : (A : Type 0) → (fault : Fault) → AllHold literal_checks → FailsFirst tail_checks fault → JudgesStatement {A = A} (Err (halts.Fault fault)) σ place general
  general-tail A fault all fails =
      let r : Result ℕ Fault = Err fault in
      turned-general {A = A} (Err (halts.Fault fault)) (fails-before level_checks (rules >> general_form) fault (judges-behind is_level (literal_levels (ls ++ last ∷ [])) (tail_levels o) r all fails))

  pub general-rules : (A : Type 0) → (halt : Halt) → AllHold literal_checks → AllHold tail_checks → OnFault halt (FailsFirst rules) → JudgesStatement {A = A} (Err halt) σ place general
  general-rules A halt all more fails = turned-general {A = A} (Err halt) (mem-after level_checks (rules >> general_form) halt (level-holds all more) (mem-before rules general_form halt fails))

  pub general-mem : (A : Type 0) → JudgesStatement {A = A} (Err halts.Mem) σ place general
  general-mem A = λ tokens are. tt

  pub general-fault : (A : Type 0) → (fault : NoteFault) → AllHold literal_checks → AllHold tail_checks → AllHold rules → IsAnswer {A = ℕ} (Err fault) (notation_checks σ.table (MakesNotation σ general))
      → JudgesStatement {A = A} (Err (halt_of place fault)) σ place general
  general-fault A fault all more good is =
      turned-general {A = A} (Err (halt_of place fault))
      (mem-after level_checks (rules >> general_form) (halt_of place fault) (level-holds all more) (table-halt place (notation_checks σ.table (MakesNotation σ general)) fault rules good is))

  pub general-holds : (A : Type 0) → (a : A) → AllHold literal_checks → AllHold tail_checks → AllHold rules → AllHold (notation_checks σ.table (MakesNotation σ general)) → JudgesStatement {A = A} (Ok a) σ place general
  general-holds A a all more good is =
      turned-general {A = A} (Ok a)
      (all_hold-both level_checks (rules >> general_form) (level-holds all more) (all_hold-both rules general_form good (retold-holds (at_statement place) (notation_checks σ.table (MakesNotation σ general)) is)))

-- ---- another description of the same notation

module _ (t : Table) (M N : Notation → Type 0) (to : (k : Notation) → M k → N k) (from : (k : Notation) → N k → M k) where
  fails-other : (x : NoteFault) → FailsFirst (notation_checks t M) x → FailsFirst (notation_checks t N) x
  fails-other x (inl (out, e)) = inl ((λ h. out (h.0, from h.0 h.1)), e)
  fails-other x (inr (form, inl (out, e))) = inr ((form.0, to form.0 form.1), inl ((λ h. out (h.0, from h.0 h.1, h.2)), e))
  fails-other x (inr (form, inr (clear, rest))) = absurd rest

  pub answer-other : {A : Type 0} → (r : Result A NoteFault) → IsAnswer r (notation_checks t M) → IsAnswer r (notation_checks t N)
  answer-other (Ok a) all = ((all.0.0, to all.0.0 all.0.1), ((all.1.0.0, to all.1.0.0 all.1.0.1, all.1.0.2), tt))
  answer-other (Err faults.Form) fails = fails-other faults.Form fails
  answer-other (Err faults.Clash) fails = fails-other faults.Clash fails
  answer-other (Err faults.CoercionClash) fails = fails-other faults.CoercionClash fails
  answer-other (Err faults.Mem) fails = tt

module _ (σ : State) (h : Head) (t : TypeText) (ls : List LiteralText) (last : LiteralText) (o : Option TailText) (g : General) (parts : ArePartsOf σ h t (ls ++ last ∷ []) o g) where
  pub general-answer : {A : Type 0} → (r : Result A NoteFault) → IsAnswer r (notation_checks σ.table (IsGeneral (signatures σ.env) σ.table.delimiters g)) → IsAnswer r (notation_checks σ.table (MakesNotation σ (notation_statement h t ls last o)))
  general-answer r is =
      answer-other σ.table (IsGeneral (signatures σ.env) σ.table.delimiters g) (MakesNotation σ (notation_statement h t ls last o)) (λ k makes. (g, parts, makes))
      (λ k makes. general-other σ h t (ls ++ last ∷ []) o makes.0 g k makes.1 parts makes.2) r is

  pub general-after : {A : Type 0} → (r : Result A NoteFault) (u : Table) → σ.term_names ≡ names_alone σ.table.names → OnOk r (AddsNotation σ.table (IsGeneral (signatures σ.env) σ.table.delimiters g) u)
      → OnOk r (After σ 0 (notation_statement h t ls last o) (over_table σ u))
  general-after (Ok a) u alone adds =
      (u, (adds.0, (g, parts, adds.1), adds.2), same-names σ u (ap names_alone (notation-same σ.table u (IsGeneral (signatures σ.env) σ.table.delimiters g) adds) ∙ sym alone))
  general-after (Err e) u alone adds = tt

-- ---- the variables of parts

pub parts-variables : (p : Parts) (vs : List Variable) (ts rs : List TypeText) → AreParts p vs ts rs → AllHold (are_others [] vs) → Every IsNamed vs
    → AreVariables (map variable_bytes (map variable p.params.items) ++ map variable_bytes (map variable p.dummies.items))
parts-variables p vs ts rs parts others named =
    subst (λ ws. AreVariables (map variable_bytes ws ++ map variable_bytes (map variable p.dummies.items))) (sym parts.params)
    (subst (λ ws. AreVariables (map variable_bytes (params_of vs) ++ map variable_bytes ws)) (sym parts.dummies) (split-variables vs others named))
