-- What the statements before declare, and what a statement's types and variables are over it (mm0.md, sections on
-- sorts, terms, definitions, axioms and theorems).
use Rattle.std.specs.Prelude.{◌++◌, ℕ, List, [], ◌∷◌, map, length, refl, Option, Some, None, unwrap_or}
use Rattle.std.specs.Coded.{Coded, code_by, coded×, coded_ℕ}
use Rattle.mz_lex.specs.Lexemes.{Lexeme}
use Rattle.mz_logic_theory.specs.Declaration.{Declaration}
use Rattle.mz_logic_theory.specs.Codes.{declaration_code}
use Rattle.mz_logic_theory.specs.Signature.{Signature}
use Rattle.mz_logic_theory.specs.declared.binder.Binder.{Binder}
use Rattle.mz_logic_theory.specs.declared.binder.ResultType.{ResultType}
use Rattle.mz_math_theory.specs.Notation.{Table, empty_table, with_name, Variables}
use Rattle.mz_math_theory.specs.Formula.{Reader}
use Rattle.mz_spec_theory.specs.declared.spec.NameSpan.{NameSpan}
use Rattle.mz_base.specs.Names.{number_of}
use Rattle.mz_spec_theory.specs.Dependencies.{dep_places}
use Rattle.mz_spec_theory.specs.Statement.{TypeText}
use Rattle.mz_spec_theory.specs.View.{Space, sorts, terms, assertions, Variable, params_of, dummies_of}

-- ---- declarations with their places

-- a declaration, the span of its name in the text, and the first byte of its statement
pub record Entry : Type 0 where
  pub decl : Declaration
  pub from : ℕ
  pub to : ℕ
  pub place : ℕ

abbrev pub entry_code : Coded Entry
entry_code = code_by (Declaration × (ℕ × (ℕ × ℕ))) (coded× declaration_code (coded× coded_ℕ (coded× coded_ℕ coded_ℕ)))
    (λ e. (e.decl, (e.from, (e.to, e.place)))) (λ p. record { decl = p.0; from = p.1.0; to = p.1.1.0; place = p.1.1.1 }) (λ _. refl)

abbrev pub env_of : List Entry → List Declaration
env_of es = map (λ e. e.decl) es

-- a declaration with its name span: the span and the place
abbrev pub entry_at : Declaration → NameSpan → Entry
entry_at d m = record { decl = d; from = m.from; to = m.to; place = m.place }

-- declarations, each with its name span
abbrev pub entries_of : List Declaration → List NameSpan → List Entry
entries_of [] ms = []
entries_of (d ∷ ds) [] = []
entries_of (d ∷ ds) (m ∷ ms) = entry_at d m ∷ entries_of ds ms

-- ---- the state

-- the names of each space, by number; the declarations, and beside each its name span; and what has been
-- declared for math strings
pub record State : Type 0 where
  pub sort_names : List (List ℕ)
  pub term_names : List (List ℕ)
  pub assertion_names : List (List ℕ)
  pub env : List Declaration
  pub spans : List NameSpan
  pub table : Table

abbrev pub nothing : State
nothing = record { sort_names = []; term_names = []; assertion_names = []; env = []; spans = []; table = empty_table }

abbrev pub names_in : State → Space → List (List ℕ)
names_in σ sorts = σ.sort_names
names_in σ terms = σ.term_names
names_in σ assertions = σ.assertion_names

-- ---- one more declaration, by its name, of the statement at a place

abbrev pub span_at : ℕ → Lexeme → NameSpan
span_at place name = record { from = name.from; to = name.to; place = place }

abbrev pub with_sort : State → ℕ → Lexeme → Declaration → State
with_sort σ place name d = record σ { sort_names = σ.sort_names ++ name.text ∷ []; env = σ.env ++ d ∷ []; spans = σ.spans ++ span_at place name ∷ [] }

-- a term can be named in math strings from then on
abbrev pub with_term : State → ℕ → Lexeme → Declaration → State
with_term σ place name d = record σ {
  term_names = σ.term_names ++ name.text ∷ [];
  env = σ.env ++ d ∷ [];
  spans = σ.spans ++ span_at place name ∷ [];
  table = with_name σ.table (record { name = name.text; term = length σ.term_names });
}

abbrev pub with_assertion : State → ℕ → Lexeme → Declaration → State
with_assertion σ place name d = record σ { assertion_names = σ.assertion_names ++ name.text ∷ []; env = σ.env ++ d ∷ []; spans = σ.spans ++ span_at place name ∷ [] }

abbrev pub with_table : State → Table → State
with_table σ t = record σ { table = t }

-- ---- types and variables over what is declared

-- the number of a type's sort, and that of a term; 0 where there is none, which no rule lets pass
abbrev pub sort_number : State → TypeText → ℕ
sort_number σ t = unwrap_or (number_of σ.sort_names t.sort.text) 0

abbrev pub term_number : State → Lexeme → ℕ
term_number σ l = unwrap_or (number_of σ.term_names l.text) 0

-- a variable's binder, over these parameters
abbrev pub binder_of : State → List Variable → Variable → Binder
binder_of σ ps v = record { sort = sort_number σ v.type; bound = v.is_bound; deps = dep_places 0 ps v.type.deps }

abbrev pub param_binders : State → List Variable → List Binder
param_binders σ vs = map (binder_of σ (params_of vs)) (params_of vs)

abbrev pub dummy_binders : State → List Variable → List Binder
dummy_binders σ vs = map (binder_of σ (params_of vs)) (dummies_of vs)

abbrev pub result_of : State → List Variable → TypeText → ResultType
result_of σ vs t = record { sort = sort_number σ t; deps = dep_places 0 (params_of vs) t.deps }

abbrev pub signature_of : State → List Variable → TypeText → Signature
signature_of σ vs t = record { params = param_binders σ vs; result = result_of σ vs t }

-- ---- what a statement's math strings are read over

-- the bytes of a variable's name, none where it has none
abbrev pub bytes_of : Option Lexeme → List ℕ
bytes_of None = []
bytes_of (Some l) = l.text

abbrev pub variable_bytes : Variable → List ℕ
variable_bytes v = bytes_of v.name

-- parameters first, then dummies
abbrev pub scope_of : State → List Variable → Variables
scope_of σ vs = record { names = map variable_bytes (params_of vs) ++ map variable_bytes (dummies_of vs); binders = param_binders σ vs ++ dummy_binders σ vs }

abbrev pub reader_of : State → List Variable → Reader
reader_of σ vs = record { env = σ.env; table = σ.table; scope = scope_of σ vs }
