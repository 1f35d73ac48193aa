-- A statement for math strings breaks no rule of the table, or one of them first.
use Rattle.std.proofs.Common.{◌≡◌, ◌⊎◌, ◌∙◌, ◌++◌, ◌+◌, ◌-◌, ◌≤◌, ℕ, zero, suc, List, [], ◌∷◌, length, take, drop, true, false, Option, ap, refl, subst, inl, inr, append_assoc, arith, length-append}
use Rattle.std.specs.Prelude.{slice_range, option_map}
use Rattle.mz_lex.specs.Lexemes.{Lexeme}
use Rattle.mz_base.specs.Checks.{Checks, retold, AllHold, FailsFirst}
use Rattle.mz_base.proofs.Offered.{retold-fails, retold-holds}
use Rattle.mz_logic_theory.specs.Declaration.{signatures}
use Rattle.mz_math_theory.specs.declared.literal.Literal.{Literal}
use Rattle.mz_math_theory.specs.declared.literal.Literal.TheVariants.{Constant as constant, Name as name}
use Rattle.mz_math_theory.specs.declared.notation.Notation.{Notation}
use Rattle.mz_math_theory.specs.Notation.{Table}
use Rattle.mz_math_theory.specs.Forms.{General, IsGeneral, notation_checks, coercion_checks, delimiter_checks}
use Rattle.mz_math_theory.proofs.Offered.{delimiters-judged, coercions-judged, infix-judged, prefix-judged, general-judged}
use Rattle.mz_spec_theory.specs.declared.kind.Fixity.{Fixity}
use Rattle.mz_spec_theory.specs.declared.kind.Fixity.TheVariants as fixities
use Rattle.mz_spec_theory.specs.Statement.{TypeText, Head, Level, LiteralText, constant_literal, name_literal, TailText, SpecStatement, sort_statement, term_statement, assert_statement, definition_statement, operator_statement, coercion_statement, delimiter_statement, notation_statement}
use Rattle.mz_spec_theory.specs.View.{variables_of}
use Rattle.mz_spec_theory.specs.State.{State, term_number, scope_of, signature_of}
use Rattle.mz_spec_theory.specs.Formulas.{inner}
use Rattle.mz_spec_theory.specs.Forms.{IsLiteral, AreLiterals, ArePartsOf, MakesNotation, coercion_of, level_of, tail_of, at_statement, form_checks}
use Rattle.mz_spec_theory.specs.Kept.{IsKept}
use Rattle.mz_spec_theory.proofs.Keeping.{general-other}

-- all hold, or one fails first
abbrev pub Judged : {R : Type 0} → Checks R → Type 0
Judged {R} cs = AllHold cs ⊎ ((r : R) × FailsFirst cs r)

pub retold-judged : {Q R : Type 0} (f : Q → R) (cs : Checks Q) → Judged cs → Judged (retold f cs)
retold-judged f cs (inl all) = inl (retold-holds f cs all)
retold-judged f cs (inr (q, fails)) = inr (f q, retold-fails f cs q fails)

-- ---- literals one after the other in a text

abbrev bytes_in : LiteralText → List ℕ
bytes_in (constant_literal c level) = inner c
bytes_in (name_literal n) = n.text

abbrev text_of : List LiteralText → List ℕ
text_of [] = []
text_of (l ∷ ls) = bytes_in l ++ text_of ls

abbrev span_at : ℕ → LiteralText → Literal
span_at at (constant_literal c level) = constant at (at + length (inner c)) (level_of level)
span_at at (name_literal n) = name at (at + length n.text)

abbrev spans_from : ℕ → List LiteralText → List Literal
spans_from at [] = []
spans_from at (l ∷ ls) = span_at at l ∷ spans_from (at + length (bytes_in l)) ls

drop-front : (before rest : List ℕ) → drop (length before) (before ++ rest) ≡ rest
drop-front [] rest = refl
drop-front (x ∷ before) rest = drop-front before rest

take-front : (bytes rest : List ℕ) (n : ℕ) → n ≡ length bytes → take n (bytes ++ rest) ≡ bytes
take-front [] rest zero same = refl
take-front [] rest (suc n) same = absurd cc
take-front (x ∷ bytes) rest zero same = absurd cc
take-front (x ∷ bytes) rest (suc n) same = ap (λ xs. x ∷ xs) (take-front bytes rest n (let e : n ≡ length bytes = cc in e))

module _ (before bytes rest : List ℕ) where
  range-is : slice_range (before ++ (bytes ++ rest)) (length before) (length before + length bytes) ≡ bytes
  range-is =
      ap (take ((length before + length bytes) - length before)) (drop-front before (bytes ++ rest))
      ∙ take-front bytes rest ((length before + length bytes) - length before) (omega arith)

  span-is : (length before ≤ length before + length bytes) × (length before + length bytes ≤ length (before ++ (bytes ++ rest)))
  span-is = (omega arith, omega (arith, length-append before (bytes ++ rest), length-append bytes rest))

literal-is : (before rest : List ℕ) (l : LiteralText) → IsLiteral (before ++ (bytes_in l ++ rest)) l (span_at (length before) l)
literal-is before rest (constant_literal c level) = (span-is before (inner c) rest, range-is before (inner c) rest, refl)
literal-is before rest (name_literal n) = (span-is before n.text rest, range-is before n.text rest)

literals-are : (before : List ℕ) (ls : List LiteralText) → AreLiterals (before ++ text_of ls) ls (spans_from (length before) ls)
literals-are before [] = tt
literals-are before (l ∷ ls) = (
  literal-is before (text_of ls) l,
  subst (λ at. AreLiterals (before ++ (bytes_in l ++ text_of ls)) ls (spans_from at ls)) (length-append before (bytes_in l))
      (subst (λ t. AreLiterals t ls (spans_from (length (before ++ bytes_in l)) ls)) (append_assoc before (bytes_in l) (text_of ls)) (literals-are (before ++ bytes_in l) ls)),
)

-- the parts of a `notation` statement, over the text of its literals in a row
abbrev general_of : State → Head → TypeText → List LiteralText → Option TailText → General
general_of σ h result ls tail = record {
  term = term_number σ h.name;
  names = (scope_of σ (variables_of h.groups)).names;
  binders = (scope_of σ (variables_of h.groups)).binders;
  result = (signature_of σ (variables_of h.groups) result).result;
  text = text_of ls;
  literals = spans_from 0 ls;
  tail = tail_of tail;
}

parts-are : (σ : State) (h : Head) (result : TypeText) (ls : List LiteralText) (tail : Option TailText) → ArePartsOf σ h result ls tail (general_of σ h result ls tail)
parts-are σ h result ls tail = (refl, refl, refl, refl, literals-are [] ls, refl)

-- ---- notations

-- statements that make the same notations break the same rules
carried : (t : Table) (Makes Other : Notation → Type 0) → ((k : Notation) → Makes k → Other k) → ((k : Notation) → Other k → Makes k) → Judged (notation_checks t Makes) → Judged (notation_checks t Other)
carried t Makes Other on back (inl ((k, makes), ((l, also, clear), _))) = inl ((k, on k makes), ((l, on l also, clear), tt))
carried t Makes Other on back (inr (f, inl (out, same))) = inr (f, inl ((λ h. out (h.0, back h.0 h.1)), same))
carried t Makes Other on back (inr (f, inr ((k, makes), inl (out, same)))) = inr (f, inr ((k, on k makes), inl ((λ h. out (h.0, back h.0 h.1, h.2)), same)))
carried t Makes Other on back (inr (f, inr ((k, makes), inr (_, more)))) = absurd more

module _ (σ : State) (kept : IsKept σ) where
  notation-judged : (h : Head) (result : TypeText) (ls : List LiteralText) (last : LiteralText) (tail : Option TailText)
      → Judged (notation_checks σ.table (MakesNotation σ (notation_statement h result ls last tail)))
  notation-judged h result ls last tail =
      let all = ls ++ last ∷ [] in
      let g = general_of σ h result all tail in
      let parts = parts-are σ h result all tail in
      carried σ.table (IsGeneral (signatures σ.env) σ.table.delimiters g) (MakesNotation σ (notation_statement h result ls last tail)) (λ k is. (g, parts, is))
      (λ k makes. general-other σ h result all tail makes.0 g k makes.1 parts makes.2)
      (general-judged σ.table kept.table (signatures σ.env) g)

  operator-judged : (f : Fixity) (n c : Lexeme) (level : Level) → Judged (notation_checks σ.table (MakesNotation σ (operator_statement f n c level)))
  operator-judged fixities.InfixLeft n c level = infix-judged σ.table kept.table (signatures σ.env) (term_number σ n) (inner c) (level_of level) false
  operator-judged fixities.InfixRight n c level = infix-judged σ.table kept.table (signatures σ.env) (term_number σ n) (inner c) (level_of level) true
  operator-judged fixities.Prefix n c level = prefix-judged σ.table kept.table (signatures σ.env) (term_number σ n) (inner c) (level_of level)

  pub form-judged : (place : ℕ) (s : SpecStatement) → Judged (form_checks σ place s)
  form-judged place (sort_statement m n) = inl tt
  form-judged place (term_statement h ts t) = inl tt
  form-judged place (assert_statement k h ps c) = inl tt
  form-judged place (definition_statement h t b) = inl tt
  form-judged place (operator_statement f n c level) = retold-judged (at_statement place) (notation_checks σ.table (MakesNotation σ (operator_statement f n c level))) (operator-judged f n c level)
  form-judged place (coercion_statement n from to) = retold-judged (at_statement place) (coercion_checks (signatures σ.env) σ.table (coercion_of σ n from to)) (coercions-judged (signatures σ.env) σ.table (coercion_of σ n from to) kept.table)
  form-judged place (delimiter_statement left right) = retold-judged (at_statement place) (delimiter_checks (inner left) (option_map inner right)) (delimiters-judged (inner left) (option_map inner right))
  form-judged place (notation_statement h t ls last tail) = retold-judged (at_statement place) (notation_checks σ.table (MakesNotation σ (notation_statement h t ls last tail))) (notation-judged h t ls last tail)
