-- What a statement makes of the table of notations, coercions and delimiters, and the rules that it breaks (mm0.md,
-- sections on notations, coercions and delimiters).
use Rattle.std.specs.Prelude.{◌≡◌, ◌++◌, ⊤, ℕ, List, [], ◌∷◌, true, false, Option, Some, None, option_map, slice_range}
use Rattle.std.specs.Str.Parse.{digits_value}
use Rattle.mz_lex.specs.Lexemes.{Lexeme}
use Rattle.mz_lex.specs.declared.rule.S.{S}
use Rattle.mz_lex.specs.declared.rule.S.TheVariants as rules
use Rattle.mz_base.specs.Checks.{Checks, nothing, retold}
use Rattle.mz_logic_theory.specs.Declaration.{signatures}
use Rattle.mz_math_theory.specs.declared.notation.Notation.{Notation}
use Rattle.mz_math_theory.specs.declared.coercion.Coercion.{Coercion}
use Rattle.mz_math_theory.specs.declared.literal.Literal.{Literal}
use Rattle.mz_math_theory.specs.declared.literal.Literal.TheVariants.{Constant as constant, Name as name}
use Rattle.mz_math_theory.specs.declared.literal.Tail.{Tail}
use Rattle.mz_math_theory.specs.declared.fault.NoteFault.{NoteFault}
use Rattle.mz_math_theory.specs.Notation.{Table, with_coercion}
use Rattle.mz_math_theory.specs.Forms.{IsInfix, IsPrefix, IsGeneral, General, IsSpan, notation_checks, coercion_checks, delimiter_checks, AddsNotation, AddsDelimiters}
use Rattle.mz_math_theory.specs.declared.fault.NoteFault.TheVariants as faults
use Rattle.mz_spec_theory.specs.declared.kind.Fixity.{Fixity}
use Rattle.mz_spec_theory.specs.declared.kind.Fixity.TheVariants as fixities
use Rattle.mz_spec_theory.specs.declared.refusal.Fault.{Fault}
use Rattle.mz_spec_theory.specs.Statement.{TypeText, Head, Level, number_level, level_max, LiteralText, constant_literal, name_literal, TailText, SpecStatement, operator_statement, coercion_statement, delimiter_statement, notation_statement}
use Rattle.mz_spec_theory.specs.View.{variables_of, alone}
use Rattle.mz_spec_theory.specs.State.{State, sort_number, term_number, signature_of, scope_of}
use Rattle.mz_spec_theory.specs.Formulas.{inner}

-- ---- precedences

abbrev pub number_in : Lexeme → ℕ
number_in l = digits_value 10 l.text

-- the highest precedence that is a number
abbrev pub highest_level : ℕ
highest_level = 4294967294

abbrev pub level_of : Level → Option ℕ
level_of (number_level l) = Some (number_in l)
level_of level_max = None

-- ---- `notation`

-- a literal as a span of a text, which holds the literal's bytes
abbrev pub IsLiteral : List ℕ → LiteralText → Literal → Type 0
IsLiteral text (constant_literal c level) (constant from to n) = IsSpan text from to × (slice_range text from to ≡ inner c) × (n ≡ level_of level)
IsLiteral text (constant_literal c level) (name from to) = ⊥
IsLiteral text (name_literal n) (constant from to level) = ⊥
IsLiteral text (name_literal n) (name from to) = IsSpan text from to × (slice_range text from to ≡ n.text)

abbrev pub AreLiterals : List ℕ → List LiteralText → List Literal → Type 0
AreLiterals text [] [] = ⊤
AreLiterals text [] (k ∷ ks) = ⊥
AreLiterals text (l ∷ ls) [] = ⊥
AreLiterals text (l ∷ ls) (k ∷ ks) = IsLiteral text l k × AreLiterals text ls ks

abbrev pub tail_of : Option TailText → Option Tail
tail_of None = None
tail_of (Some t) = Some (record { level = level_of t.level; right = t.is_right })

-- the parts of a `notation` statement, over whatever text holds its literals
abbrev pub ArePartsOf : State → Head → TypeText → List LiteralText → Option TailText → General → Type 0
ArePartsOf σ h result literals tail g =
    (g.term ≡ term_number σ h.name)
    × (g.names ≡ (scope_of σ (variables_of h.groups)).names)
    × (g.binders ≡ (scope_of σ (variables_of h.groups)).binders)
    × (g.result ≡ (signature_of σ (variables_of h.groups) result).result)
    × AreLiterals g.text literals g.literals
    × (g.tail ≡ tail_of tail)

-- ---- the notation that a statement makes, where it is of its form

abbrev pub MakesOperator : State → Fixity → Lexeme → Lexeme → Level → Notation → Type 0
MakesOperator σ fixities.InfixLeft n c level k = IsInfix (signatures σ.env) σ.table.delimiters (term_number σ n) (inner c) (level_of level) false k
MakesOperator σ fixities.InfixRight n c level k = IsInfix (signatures σ.env) σ.table.delimiters (term_number σ n) (inner c) (level_of level) true k
MakesOperator σ fixities.Prefix n c level k = IsPrefix (signatures σ.env) σ.table.delimiters (term_number σ n) (inner c) (level_of level) k

abbrev pub MakesNotation : State → SpecStatement → Notation → Type 0
MakesNotation σ (operator_statement f n c level) k = MakesOperator σ f n c level k
MakesNotation σ (notation_statement h result literals last tail) k =
    (g : General) × ArePartsOf σ h result (literals ++ last ∷ []) tail g × IsGeneral (signatures σ.env) σ.table.delimiters g k
MakesNotation σ _ k = ⊥

abbrev pub coercion_of : State → Lexeme → Lexeme → Lexeme → Coercion
coercion_of σ n from to = record { term = term_number σ n; from = sort_number σ (alone from); to = sort_number σ (alone to) }

-- ---- rules

-- no check answers out of memory
abbrev pub rule_of_note : NoteFault → S
rule_of_note faults.Form = rules.NotationForm
rule_of_note faults.Clash = rules.NotationClash
rule_of_note faults.CoercionClash = rules.CoercionClash
rule_of_note faults.Mem = rules.NotationForm

abbrev pub at_statement : ℕ → NoteFault → Fault
at_statement place fault = record { at = place; rule = rule_of_note fault }

-- what is asked of the statement at a place for the table's sake
abbrev pub form_checks : State → ℕ → SpecStatement → Checks Fault
form_checks σ place (operator_statement f n c level) = retold (at_statement place) (notation_checks σ.table (MakesNotation σ (operator_statement f n c level)))
form_checks σ place (notation_statement h result literals last tail) = retold (at_statement place) (notation_checks σ.table (MakesNotation σ (notation_statement h result literals last tail)))
form_checks σ place (coercion_statement n from to) = retold (at_statement place) (coercion_checks (signatures σ.env) σ.table (coercion_of σ n from to))
form_checks σ place (delimiter_statement left right) = retold (at_statement place) (delimiter_checks (inner left) (option_map inner right))
form_checks σ place _ = nothing

-- ---- what a good statement makes of the table

abbrev pub ChangesTable : State → SpecStatement → Table → Type 0
ChangesTable σ (operator_statement f n c level) u = AddsNotation σ.table (MakesNotation σ (operator_statement f n c level)) u
ChangesTable σ (notation_statement h result literals last tail) u = AddsNotation σ.table (MakesNotation σ (notation_statement h result literals last tail)) u
ChangesTable σ (coercion_statement n from to) u = u ≡ with_coercion σ.table (coercion_of σ n from to)
ChangesTable σ (delimiter_statement left right) u = AddsDelimiters σ.table (inner left) (option_map inner right) u
ChangesTable σ _ u = u ≡ σ.table
