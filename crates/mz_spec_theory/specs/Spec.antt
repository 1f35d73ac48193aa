-- Specifications: what a text declares, and the first rule that it breaks (mm0.md; which fault is the first is this
-- project's own).
use Rattle.std.specs.Prelude.{◌≡◌, ◌⊎◌, ◌+◌, ◌++◌, ℕ, List, [], ◌∷◌, length, Option}
use Rattle.mz_lex.specs.Lexemes.{Lexeme, LexesFrom, Lexes}
use Rattle.mz_lex.specs.declared.token.LexFault.{LexFault}
use Rattle.mz_logic_theory.specs.Declaration.{Declaration}
use Rattle.mz_base.specs.Checks.{AllHold, FailsFirst}
use Rattle.mz_lex.specs.declared.tokens.MathToken.{MathToken}
use Rattle.mz_spec_theory.specs.declared.refusal.Fault.{Fault}
use Rattle.mz_spec_theory.specs.Statement.{SpecStatement, Spells}
use Rattle.mz_spec_theory.specs.Stops.{Stops}
use Rattle.mz_spec_theory.specs.Reading.{place_of_first}
use Rattle.mz_spec_theory.specs.declared.spec_refusal.SpecRefusal.{SpecRefusal}
use Rattle.mz_spec_theory.specs.View.{view}
use Rattle.mz_spec_theory.specs.State.{State, Entry, nothing, entries_of, env_of}
use Rattle.mz_spec_theory.specs.Formulas.{AreTokens}
use Rattle.mz_spec_theory.specs.Rules.{statement_checks}
use Rattle.mz_spec_theory.specs.Declaring.{After}

-- ---- good statements

-- no rule fails
abbrev pub IsGood : State → ℕ → SpecStatement → Type 0
IsGood σ place s = (tokens : List (List MathToken)) × AreTokens σ (view s).formulas tokens × AllHold (statement_checks σ place s tokens)

-- this is the first rule that fails
abbrev pub Fails : State → ℕ → SpecStatement → Fault → Type 0
Fails σ place s fault = (tokens : List (List MathToken)) × AreTokens σ (view s).formulas tokens × FailsFirst (statement_checks σ place s tokens) fault

-- the lexemes begin with these statements, one after the other, each good over what those before it
-- declare; behind them stand further lexemes
abbrev pub Stand : State → List SpecStatement → List Lexeme → State → List Lexeme → Type 0
Stand σ [] ls τ rest = (τ ≡ σ) × (rest ≡ ls)
Stand σ (s ∷ ss) ls τ rest = (front : List Lexeme) × (back : List Lexeme) × (ρ : State) × (ls ≡ front ++ back)
    × Spells s front × IsGood σ (place_of_first front) s × After σ (place_of_first front) s ρ × Stand ρ ss back τ rest

-- the text is a specification with these declarations, name spans and places
abbrev pub SpecMakes : List ℕ → List Entry → Type 0
SpecMakes text entries = (ls : List Lexeme) × (ss : List SpecStatement) × (σ : State) × Lexes text ls × Stand nothing ss ls σ [] × (entries ≡ entries_of σ.env σ.spans)

-- what the text declares
abbrev pub SpecOf : List ℕ → List Declaration → Type 0
SpecOf text ds = (entries : List Entry) × SpecMakes text entries × (ds ≡ env_of entries)

-- ---- the first rule that fails

-- the lexemes begin with a statement, and this is the first of its rules that fails
abbrev pub Breaks : State → List Lexeme → Fault → Type 0
Breaks σ ls fault = (s : SpecStatement) × (front : List Lexeme) × (back : List Lexeme) × (ls ≡ front ++ back) × Spells s front × Fails σ (place_of_first front) s fault

-- the first fault of a text: the statements before are good, and there the lexemes stop or a rule fails
abbrev pub SpecFault : List ℕ → SpecRefusal → Type 0
SpecFault text refusal = (ls : List Lexeme) × (ending : Option LexFault) × (ss : List SpecStatement) × (σ : State) × (rest : List Lexeme)
    × LexesFrom text 0 ls ending × Stand nothing ss ls σ rest × (refusal.statement ≡ length ss + 1)
    × (Stops (length text) rest ending (record { at = refusal.at; rule = refusal.rule }) ⊎ Breaks σ rest (record { at = refusal.at; rule = refusal.rule }))
