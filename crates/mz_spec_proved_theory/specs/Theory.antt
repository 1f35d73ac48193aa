-- What the statements of a specification have declared, and what a statement's variables are over it (mm0.md, sections
-- on sorts, terms, definitions, axioms and theorems).
use Rattle.std.specs.Prelude.{◌≡◌, ◌≢◌, ◌++◌, ℕ, List, [], map, All, Some, slice_get, unwrap_or}
use Rattle.mz_base.specs.Names.{number_of, IsKnown}
use Rattle.mz_lex.specs.Lexemes.{Lexeme}
use Rattle.mz_logic_theory.specs.Declaration.{Declaration}
use Rattle.mz_logic_theory.specs.Signature.{Signature}
use Rattle.mz_logic_theory.specs.declared.binder.Binder.{Binder}
use Rattle.mz_math_theory.specs.Formula.{Reader}
use Rattle.mz_math_theory.specs.Notation.{Table, empty_table, Variables}
use Rattle.mz_spec_theory.specs.Dependencies.{dep_places}
use Rattle.mz_spec_theory.specs.State.{variable_bytes}
use Rattle.mz_spec_theory.specs.Statement.{TypeText}
use Rattle.mz_spec_theory.specs.View.{Variable, params_of, dummies_of, names_of}

-- the names of sorts, of terms, and of axioms and theorems, each by its number; the declarations; and what math strings
-- are read by
pub record Theory : Type 0 where
  pub sort_names : List (List ℕ)
  pub term_names : List (List ℕ)
  pub assertion_names : List (List ℕ)
  pub env : List Declaration
  pub table : Table

abbrev pub no_theory : Theory
no_theory = record { sort_names = []; term_names = []; assertion_names = []; env = []; table = empty_table }

-- the number of a name; 0 where there is none: each use stands beside the fact that it is known
abbrev pub index_of : List (List ℕ) → Lexeme → ℕ
index_of names l = unwrap_or (number_of names l.text) 0

-- ---- variables

-- the variables of a statement as a context: parameters, then dummies
abbrev pub in_order : List Variable → List Variable
in_order vs = params_of vs ++ dummies_of vs

-- the binder of one of them: its dependencies by their places among all
abbrev pub binder_over : Theory → List Variable → Variable → Binder
binder_over θ vs v = record { sort = index_of θ.sort_names v.type.sort; bound = v.is_bound; deps = dep_places 0 (in_order vs) v.type.deps }

abbrev pub binders_over : Theory → List Variable → List Variable → List Binder
binders_over θ vs these = map (binder_over θ vs) these

abbrev pub signature_over : Theory → List Variable → TypeText → Signature
signature_over θ vs t =
    record { params = binders_over θ vs (params_of vs); result = record { sort = index_of θ.sort_names t.sort; deps = dep_places 0 (in_order vs) t.deps } }

abbrev pub variables_over : Theory → List Variable → Variables
variables_over θ vs = record { names = map variable_bytes (in_order vs); binders = binders_over θ vs (in_order vs) }

-- what the math strings of a statement with these variables are read over
abbrev pub reader_over : Theory → List Variable → Reader
reader_over θ vs = record { env = θ.env; table = θ.table; scope = variables_over θ vs }

-- a type's sort is declared, and what it depends on are variables of the statement
abbrev pub IsType : Theory → List Variable → TypeText → Type 0
IsType θ vs t = IsKnown θ.sort_names t.sort.text × All (λ l. IsKnown (names_of vs) l.text) t.deps

-- no two have one name; empty ones are none
abbrev pub HaveOwnNames : List (List ℕ) → Type 0
HaveOwnNames names = (i j : ℕ) (w : List ℕ) → w ≢ [] → slice_get names i ≡ Some w → slice_get names j ≡ Some w → i ≡ j

-- no two variables have one name, and these types are right
abbrev pub AreTyped : Theory → List Variable → List TypeText → Type 0
AreTyped θ vs types = HaveOwnNames (variables_over θ vs).names × All (IsType θ vs) types
