-- Names (mm0.md, identifiers), and what each of them stands for.
use Rattle.std.specs.Prelude.{ℕ, Bool, ◌≡◌, ◌⊎◌, IsTrue, List, Some, codes, [], ◌∷◌, ◌++◌}
use Rattle.mz_base.specs.Identifiers.{is_name}
use Rattle.mz_base.specs.Names.{number_of, IsNew}
use Rattle.mz_sexpr.specs.Node.{Node, atom, list}
use Rattle.mz_logic_theory.specs.Declaration.{Declaration, sort_decl, term_decl, assertion_decl}
use Rattle.mz_logic_theory.specs.declared.binder.Binder.{Binder}

-- ---- names

-- the atom of a parameter that has no name
abbrev pub hidden : List ℕ
hidden = codes "_"

-- the atom is an identifier
abbrev pub IsName : List ℕ → Type 0
IsName w = IsTrue (is_name w)

-- ---- numbers

-- the atom is a name, which has this number
abbrev pub HasNumber : List (List ℕ) → Node → ℕ → Type 0
HasNumber xs (atom _ w) i = IsName w × (number_of xs w ≡ Some i)
HasNumber xs (list _ _) i = ⊥

-- the atom is this name, which isn't taken
abbrev pub IsNewName : List (List ℕ) → Node → List ℕ → Type 0
IsNewName xs (atom _ w) x = (x ≡ w) × IsName w × IsNew xs w
IsNewName xs (list _ _) x = ⊥

-- the same of a parameter's name, which may be `_`, any number of times
abbrev pub IsParamName : List (List ℕ) → Node → List ℕ → Type 0
IsParamName xs (atom _ w) x = (x ≡ w) × ((w ≡ hidden) ⊎ (IsName w × IsNew xs w))
IsParamName xs (list _ _) x = ⊥

-- ---- what is declared

-- the names of the statements before: those of sorts, of terms, of terms without parameters (with
-- nothing in the place of a term that has some), of axioms and theorems; and whether proofs may have gaps
pub record Names : Type 0 where
  pub gaps : Bool
  pub sorts : List (List ℕ)
  pub terms : List (List ℕ)
  pub constants : List (List ℕ)
  pub assertions : List (List ℕ)

-- what an expression sees: those, and the variables of its statement that are visible
pub record Scope : Type 0 where
  pub names : Names
  pub vars : List (List ℕ)

-- those where these variables are visible
abbrev pub scope_of : Names → List (List ℕ) → Scope
scope_of names vars = record { names = names; vars = vars }

abbrev pub no_names : Bool → Names
no_names gaps = record { gaps = gaps; sorts = []; terms = []; constants = []; assertions = [] }

-- a term's name where it has no parameters, and nothing where it has some
abbrev pub constant_name : List Binder → List ℕ → List ℕ
constant_name [] w = w
constant_name (_ ∷ _) w = []

abbrev pub names_with : Names → List ℕ → Declaration → Names
names_with names w (sort_decl _) = record names { sorts = names.sorts ++ w ∷ [] }
names_with names w (term_decl d) = record names { terms = names.terms ++ w ∷ []; constants = names.constants ++ constant_name d.signature.params w ∷ [] }
names_with names w (assertion_decl _) = record names { assertions = names.assertions ++ w ∷ [] }
