-- What the text of a specification declares (mm0.md; what is refused, and by which rule, is said elsewhere).
use Rattle.std.specs.Prelude.{◌≡◌, ◌++◌, ℕ, List, [], ◌∷◌, length, map, Option, option_map}
use Rattle.mz_base.specs.Names.{IsNew, IsKnown}
use Rattle.mz_lex.specs.Lexemes.{Lexeme, IsBlank, IsNext}
use Rattle.mz_lex.specs.MathTokens.{AreDelimiters}
use Rattle.mz_lex.specs.declared.tokens.Delimiters.{Delimiters}
use Rattle.mz_logic_theory.specs.Declaration.{Declaration, sort_decl, term_decl, assertion_decl, Term, Assertion, Form, plain_form, sorts, signatures}
use Rattle.mz_logic_theory.specs.LegalLists.{AreDummies}
use Rattle.mz_math_theory.specs.Clear.{IsClear}
use Rattle.mz_math_theory.specs.Coercions.{OnePath}
use Rattle.mz_math_theory.specs.Forms.{IsCoercion}
use Rattle.mz_math_theory.specs.declared.wanted.Wanted.TheVariants.{Provable as provable}
use Rattle.mz_math_theory.specs.Notation.{with_name, with_notation, with_coercion, with_delimiters}
use Rattle.mz_math_theory.specs.declared.notation.Notation.{Notation}
use Rattle.mz_math_theory.specs.declared.coercion.Coercion.{Coercion}
use Rattle.mz_spec_theory.specs.Declaring.{sort_bits, is_axiom}
use Rattle.mz_spec_theory.specs.Formulas.{inner}
use Rattle.mz_spec_theory.specs.Statement.{SpecStatement, sort_statement, term_statement, assert_statement, definition_statement, operator_statement, coercion_statement, delimiter_statement, notation_statement, each, AreSigns, statement_signs, TypeText, Head}
use Rattle.mz_spec_theory.specs.View.{Variable, variables_of, unnamed, types_of, group_types, Stated, stated_of, params_of, dummies_of}
use Rattle.mz_spec_proved_theory.specs.WellFormed.{IsWellFormed}
use Rattle.mz_spec_proved_theory.specs.Theory.{Theory, no_theory, index_of, binders_over, signature_over, reader_over, AreTyped}
use Rattle.mz_spec_proved_theory.specs.MathStrings.{StandsFor, AreHypotheses, IsFormText}
use Rattle.mz_spec_proved_theory.specs.NotationTexts.{Makes}

-- ---- one more declaration, by a new name

-- a term over these variables, whose statement has these types
abbrev pub AddsTerm : Theory → Lexeme → List Variable → List TypeText → Term → Theory → Type 0
AddsTerm θ name vs types t τ = IsNew θ.term_names name.text × AreTyped θ vs types × IsWellFormed θ.env (term_decl t) × (τ ≡ record θ {
  term_names = θ.term_names ++ name.text ∷ [];
  env = θ.env ++ term_decl t ∷ [];
  table = with_name θ.table (record { name = name.text; term = length θ.term_names });
})

-- a definition; what is asked of its dummies is asked also where it has no body
abbrev pub AddsDefinition : Theory → Head → List Variable → TypeText → Option Lexeme → Theory → Type 0
AddsDefinition θ h vs result body τ = (f : Form) × AreDummies (sorts θ.env) (binders_over θ vs (dummies_of vs))
    × IsFormText (reader_over θ vs) (index_of θ.sort_names result.sort) (binders_over θ vs (dummies_of vs)) body f
    × AddsTerm θ h.name vs (group_types h.groups ++ result ∷ []) (record { signature = signature_over θ vs result; form = f }) τ

-- an axiom or theorem
abbrev pub AddsAssertion : Theory → Lexeme → List Variable → List TypeText → List Stated → Lexeme → Assertion → Theory → Type 0
AddsAssertion θ name vs types stated conclusion a τ = IsNew θ.assertion_names name.text × AreTyped θ vs types
    × (a.params ≡ binders_over θ vs (params_of vs)) × AreHypotheses (reader_over θ vs) stated a.hyps × StandsFor (reader_over θ vs) provable conclusion a.conclusion
    × IsWellFormed θ.env (assertion_decl a)
    × (τ ≡ record θ { assertion_names = θ.assertion_names ++ name.text ∷ []; env = θ.env ++ assertion_decl a ∷ [] })

abbrev pub AddsNotation : Theory → (Notation → Type 0) → Theory → Type 0
AddsNotation θ Is τ = (k : Notation) × Is k × IsClear (with_notation θ.table k).leading (with_notation θ.table k).infixes
    × (τ ≡ record θ { table = with_notation θ.table k })

-- ---- statements

-- the statement is right over one theory, and makes it another; notations stay clear of one another, and between two
-- sorts there is still one path of coercions at most
abbrev pub Adds : Theory → SpecStatement → Theory → Type 0
Adds θ (sort_statement m name) τ = IsNew θ.sort_names name.text
    × (τ ≡ record θ { sort_names = θ.sort_names ++ name.text ∷ []; env = θ.env ++ sort_decl (record { 0 = sort_bits m }) ∷ [] })
Adds θ (term_statement h arguments result) τ = AddsTerm θ h.name (variables_of h.groups ++ map unnamed arguments)
    (group_types h.groups ++ (arguments ++ result ∷ []))
    (record { signature = signature_over θ (variables_of h.groups ++ map unnamed arguments) result; form = plain_form }) τ
Adds θ (definition_statement h result body) τ = AddsDefinition θ h (variables_of h.groups) result body τ
Adds θ (assert_statement kind h premises conclusion) τ = (a : Assertion) × (a.is_axiom ≡ is_axiom kind)
    × AddsAssertion θ h.name (variables_of h.groups ++ map unnamed (types_of premises)) (group_types h.groups ++ types_of premises)
    (stated_of h.groups premises) conclusion a τ
Adds θ (coercion_statement n from to) τ = IsKnown θ.term_names n.text × IsKnown θ.sort_names from.text × IsKnown θ.sort_names to.text
    × ((c : Coercion) × (c ≡ record { term = index_of θ.term_names n; from = index_of θ.sort_names from; to = index_of θ.sort_names to })
    × IsCoercion (signatures θ.env) c × OnePath (θ.table.coercions ++ c ∷ []) × (τ ≡ record θ { table = with_coercion θ.table c }))
Adds θ (delimiter_statement left right) τ = (d : Delimiters) × AreDelimiters (inner left) (option_map inner right) d
    × (τ ≡ record θ { table = with_delimiters θ.table d })
Adds θ (operator_statement f n c level) τ = IsKnown θ.term_names n.text × AddsNotation θ (Makes θ (operator_statement f n c level)) τ
Adds θ (notation_statement h result literals last tail) τ = IsKnown θ.term_names h.name.text
    × AreTyped θ (variables_of h.groups) (group_types h.groups ++ result ∷ [])
    × AddsNotation θ (Makes θ (notation_statement h result literals last tail)) τ

-- ---- texts

abbrev pub AddAll : Theory → List SpecStatement → Theory → Type 0
AddAll θ [] τ = τ ≡ θ
AddAll θ (s ∷ ss) τ = (ρ : Theory) × Adds θ s ρ × AddAll ρ ss τ

-- from a place on stand these lexemes, one after the other, and then nothing
abbrev pub AreLexemes : List ℕ → ℕ → List Lexeme → Type 0
AreLexemes text from [] = IsBlank text from (length text)
AreLexemes text from (l ∷ ls) = IsNext text from l × AreLexemes text l.to ls

-- the lexemes of the text spell statements, which declare this from nothing on
abbrev pub Specifies : List ℕ → List Declaration → Type 0
Specifies text ds = (ls : List Lexeme) × (ss : List SpecStatement) × (τ : Theory) × AreLexemes text 0 ls × AreSigns (each statement_signs ss) ls
    × AddAll no_theory ss τ × (ds ≡ τ.env)
