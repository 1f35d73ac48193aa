-- The notations that statements make (mm0.md, section on notations; that a notation may begin with a parameter, and its tail, are
-- this project's own).
use Rattle.std.specs.Prelude.{◌≡◌, ◌<◌, ◌++◌, ℕ, List, [], ◌∷◌, Bool, true, false, Option, Some, None, length, slice_get}
use Rattle.std.specs.Str.Parse.{digits_value}
use Rattle.mz_lex.specs.Lexemes.{Lexeme}
use Rattle.mz_lex.specs.MathTokens.{IsConstant}
use Rattle.mz_lex.specs.declared.tokens.Delimiters.{Delimiters}
use Rattle.mz_logic_theory.specs.Declaration.{signatures}
use Rattle.mz_logic_theory.specs.Signature.{Signature}
use Rattle.mz_math_theory.specs.Notation.{max_level, prefixed, infixed}
use Rattle.mz_math_theory.specs.declared.notation.Element.{Element}
use Rattle.mz_math_theory.specs.declared.notation.Element.TheVariants.{Fixed as fixed, Slot as slot}
use Rattle.mz_math_theory.specs.declared.notation.Notation.{Notation}
use Rattle.mz_math_theory.specs.Forms.{EachOnce}
use Rattle.mz_spec_theory.specs.declared.kind.Fixity.{Fixity}
use Rattle.mz_spec_theory.specs.declared.kind.Fixity.TheVariants as fixities
use Rattle.mz_spec_theory.specs.Formulas.{inner}
use Rattle.mz_spec_theory.specs.Statement.{TypeText, Level, number_level, level_max, LiteralText, constant_literal, name_literal, TailText, SpecStatement, operator_statement, notation_statement}
use Rattle.mz_spec_theory.specs.View.{Variable, variables_of}
use Rattle.mz_spec_proved_theory.specs.Theory.{Theory, index_of, signature_over, variables_over}

-- a precedence is a number below 4,294,967,295 (this project's own), or max, above all these
abbrev pub IsPrecedence : Level → ℕ → Type 0
IsPrecedence (number_level l) q = (q ≡ digits_value 10 l.text) × (q < max_level)
IsPrecedence level_max q = q ≡ max_level

-- of a term with n parameters, by the constant w
abbrev pub IsOperator : Fixity → ℕ → ℕ → List ℕ → ℕ → Notation → Type 0
IsOperator fixities.Prefix t n w q k = k ≡ prefixed t n w q
IsOperator fixities.InfixLeft t n w q k = (n ≡ 2) × (k ≡ infixed t w q false)
IsOperator fixities.InfixRight t n w q k = (n ≡ 2) × (k ≡ infixed t w q true)

-- a literal is a constant with its precedence, or the name of a parameter
abbrev pub IsLiteral : Delimiters → List (List ℕ) → LiteralText → Element → Type 0
IsLiteral d names (constant_literal c level) e = (w : List ℕ) × (q : ℕ) × IsConstant d (inner c) w × IsPrecedence level q × (e ≡ fixed w q)
IsLiteral d names (name_literal n) e = (i : ℕ) × (slice_get names i ≡ Some n.text) × (e ≡ slot i)

abbrev pub AreLiterals : Delimiters → List (List ℕ) → List LiteralText → List Element → Type 0
AreLiterals d names [] es = es ≡ []
AreLiterals d names (l ∷ ls) es = (e : Element) × (rest : List Element) × (es ≡ e ∷ rest) × IsLiteral d names l e × AreLiterals d names ls rest

-- a constant comes first and there is no tail; or a parameter, then a constant of the tail's precedence
abbrev pub BeginsBy : List Element → Option TailText → ℕ → Bool → Type 0
BeginsBy (fixed w q ∷ es) None level right = (level ≡ q) × (right ≡ true)
BeginsBy (slot i ∷ fixed w q ∷ es) (Some tail) level right = IsPrecedence tail.level q × (level ≡ q) × (right ≡ tail.is_right)
BeginsBy _ _ level right = ⊥

-- a `notation` statement: its variables and type are the term's, and each variable is named once
abbrev pub IsGeneral : Theory → Lexeme → List Variable → TypeText → List LiteralText → Option TailText → Notation → Type 0
IsGeneral θ n vs result literals tail k = (k.term ≡ index_of θ.term_names n)
    × (slice_get (signatures θ.env) k.term ≡ Some (record { params = (variables_over θ vs).binders; result = (signature_over θ vs result).result }))
    × AreLiterals θ.table.delimiters (variables_over θ vs).names literals k.elements
    × EachOnce (length (variables_over θ vs).binders) k.elements × BeginsBy k.elements tail k.level k.is_right

-- the statement makes this notation
abbrev pub Makes : Theory → SpecStatement → Notation → Type 0
Makes θ (operator_statement f n c level) k = (w : List ℕ) × (s : Signature) × (q : ℕ) × IsConstant θ.table.delimiters (inner c) w × IsPrecedence level q
    × (slice_get (signatures θ.env) (index_of θ.term_names n) ≡ Some s) × IsOperator f (index_of θ.term_names n) (length s.params) w q k
Makes θ (notation_statement h result literals last tail) k = IsGeneral θ h.name (variables_of h.groups) result (literals ++ last ∷ []) tail k
Makes θ _ k = ⊥
