-- What the formulas of a statement stand for, and the rules that they break (mm0.md, sections on definitions, axioms
-- and theorems).
use Rattle.std.specs.Prelude.{◌≡◌, ◌+◌, ⊤, ℕ, List, [], ◌∷◌, Contains}
use Rattle.mz_lex.specs.Kinds.{inside_of}
use Rattle.mz_lex.specs.Lexemes.{Lexeme}
use Rattle.mz_lex.specs.declared.rule.S.{S}
use Rattle.mz_lex.specs.declared.rule.S.TheVariants as rules
use Rattle.mz_base.specs.Checks.{Checks, nothing, demand, retold, ◌>>◌}
use Rattle.mz_logic_theory.specs.Tree.{Tree, Trees, none, followed_by}
pub use Rattle.mz_logic_theory.specs.Tree.{copies}
use Rattle.mz_logic_theory.specs.Declaration.{signatures}
use Rattle.mz_logic_theory.specs.Variables.{InFV}
use Rattle.mz_lex.specs.declared.tokens.MathToken.{MathToken}
use Rattle.mz_lex.specs.MathTokens.{MathTokens}
use Rattle.mz_math_theory.specs.declared.wanted.Wanted.{Wanted}
use Rattle.mz_math_theory.specs.declared.wanted.Wanted.TheVariants.{Provable as provable, Sort as of_sort}
use Rattle.mz_math_theory.specs.Formula.{Misreading, formula_checks, IsFormula}
use Rattle.mz_spec_theory.specs.declared.refusal.Fault.{Fault}
use Rattle.mz_spec_theory.specs.Statement.{TypeText}
use Rattle.mz_spec_theory.specs.View.{Variable, Formula, claim, body, Stated}
use Rattle.mz_spec_theory.specs.State.{State, sort_number, result_of, scope_of, reader_of}

-- the text between the two `$` of a math string
abbrev pub inner : Lexeme → List ℕ
inner l = inside_of l.text

abbrev pub math_of : Formula → Lexeme
math_of (claim l) = l
math_of (body l t) = l

-- a formula is of a provable sort, a body of its type's
abbrev pub wanted_of : State → Formula → Wanted
wanted_of σ (claim l) = provable
wanted_of σ (body l t) = of_sort (sort_number σ t)

-- ---- meaning

-- the formula breaks no rule, and stands for the expression
abbrev pub IsMeant : State → List Variable → Formula → Tree → Type 0
IsMeant σ vs f e = IsFormula (reader_of σ vs) (wanted_of σ f) (inner (math_of f)) e

-- the hypotheses that formulas make
abbrev pub AreHyps : State → List Variable → List Stated → Trees → Type 0
AreHyps σ vs [] es = es ≡ none
AreHyps σ vs (h ∷ hs) es = (e : Tree) × (rest : Trees) × IsMeant σ vs (claim h.math) e × AreHyps σ vs hs rest × (es ≡ followed_by (copies h.times e) rest)

-- ---- tokens

-- the tokens of each formula
abbrev pub AreTokens : State → List Formula → List (List MathToken) → Type 0
AreTokens σ [] [] = ⊤
AreTokens σ [] (ps ∷ pss) = ⊥
AreTokens σ (f ∷ fs) [] = ⊥
AreTokens σ (f ∷ fs) (ps ∷ pss) = MathTokens σ.table.delimiters (inner (math_of f)) ps × AreTokens σ fs pss

-- ---- rules

-- an unknown token is reported where it stands, the other rules at the `$`
abbrev pub place_of : Lexeme → S → ℕ → ℕ
place_of l rules.MathToken at = l.from + 1 + at
place_of l _ at = l.from

abbrev pub told : Lexeme → Misreading → Fault
told l m = record { at = place_of l m.rule m.at; rule = m.rule }

-- what is asked of a formula with these tokens
abbrev pub string_checks : State → List Variable → Formula → List MathToken → Checks Fault
string_checks σ vs f ps = retold (told (math_of f)) (formula_checks (reader_of σ vs) (wanted_of σ f) (inner (math_of f)) ps)

-- string by string
abbrev pub strings_checks : State → List Variable → List Formula → List (List MathToken) → Checks Fault
strings_checks σ vs [] pss = nothing
strings_checks σ vs (f ∷ fs) [] = nothing
strings_checks σ vs (f ∷ fs) (ps ∷ pss) = string_checks σ vs f ps >> strings_checks σ vs fs pss

-- ---- free variables

-- the result depends on each free variable of the body
abbrev pub CoversFreeVariables : State → List Variable → TypeText → Tree → Type 0
CoversFreeVariables σ vs t e = (x : ℕ) → InFV (signatures σ.env) (scope_of σ vs).binders x e → Contains (result_of σ vs t).deps x

abbrev pub free_checks : State → ℕ → List Variable → Formula → Checks Fault
free_checks σ place vs (claim l) = nothing
free_checks σ place vs (body l t) =
    demand (record { at = place; rule = rules.DefinitionDependencies }) ((e : Tree) × IsMeant σ vs (body l t) e × CoversFreeVariables σ vs t e)
