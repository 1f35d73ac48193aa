-- The names of the statements of a pair that is accepted, as they are gathered from the specification and the binary
-- (this project's own).
use Rattle.std.specs.Prelude.{◌≡◌, ◌++◌, ⊤, ℕ, List, [], ◌∷◌}
use Rattle.mz_logic_theory.specs.Declaration.{Declaration}
use Rattle.mz_logic_theory.specs.LegalLists.{Statement as Marked}
use Rattle.mz_mmu_theory.specs.Statements.{Statement}
use Rattle.mz_spec_theory.specs.State.{Entry}
use Rattle.mz_spec_theory.specs.Spec.{SpecMakes}
use Rattle.mz_match_theory.specs.Verdict.{Accepts}
use Rattle.mz_mmu_theory.specs.DeclaredNames.{sort_name, term_name, assertion_name, prefix_beside}
use Rattle.mz_decompile_text.specs.Naming.{Naming}
use Rattle.mz_decompile_text.specs.Names.{declared_names, statement_names, naming_of}

-- the names of the statements of one kind, where each has one of the names
abbrev pub names_of : (Declaration → List ℕ → List (List ℕ)) → List Marked → List (List ℕ) → List (List ℕ)
names_of part [] names = []
names_of part (s ∷ ss) [] = []
names_of part (s ∷ ss) (name ∷ names) = part s.decl name ++ names_of part ss names

abbrev pub naming_under : List ℕ → List Marked → List (List ℕ) → Naming
naming_under prefix ss names = record {
  sorts = names_of sort_name ss names;
  terms = names_of term_name ss names;
  assertions = names_of assertion_name ss names;
  prefix = prefix;
}

-- public statements have these names, one after another, and local ones their numbers
abbrev pub naming_by : List (List ℕ) → List Marked → Naming
naming_by names ss = naming_under (prefix_beside names) ss (statement_names names (prefix_beside names) 0 1 ss)

-- the names of the pair's statements, however it is shown to be accepted
abbrev pub IsNamingOf : List ℕ → List ℕ → Naming → Type 0
IsNamingOf spec bin naming = (accepts : Accepts spec bin) (entries : List Entry) → SpecMakes spec entries → naming ≡ naming_by (declared_names spec entries) accepts.statements

-- ---- as the statements of a text

-- each declares what a statement of the list does, and has the name
abbrev pub AreNamed : List Marked → List (List ℕ) → List Statement → Type 0
AreNamed [] [] [] = ⊤
AreNamed (s ∷ ss) (name ∷ names) (t ∷ ts) = (t.decl ≡ s.decl) × (t.name ≡ name) × AreNamed ss names ts
AreNamed _ _ _ = ⊥

abbrev pub NamedStatementsName : Type 0
NamedStatementsName = (prefix : List ℕ) (ss : List Marked) (names : List (List ℕ)) (ts : List Statement) → AreNamed ss names ts → naming_of prefix ts ≡ naming_under prefix ss names
