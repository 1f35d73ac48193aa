-- The names of the text that states what a binary proves (this project's own).
use Rattle.std.specs.Prelude.{ℕ, suc, ◌++◌, List, [], ◌∷◌, get_or, if◌then◌else◌, codes, decimal}
use Rattle.mz_logic_theory.specs.LegalLists.{Statement as Marked}
use Rattle.mz_mmu_theory.specs.Statements.{Statement}
use Rattle.mz_spec_theory.specs.State.{Entry}
use Rattle.mz_spec_theory.specs.Names.{name_at}
use Rattle.mz_mmu_theory.specs.DeclaredNames.{sort_names, term_names, assertion_names}
use Rattle.mz_decompile_text.specs.Phrasing.{Vocabulary}
use Rattle.mz_decompile_text.specs.Naming.{Naming, vocabulary_by}

-- the names of a specification's declarations, in order
abbrev pub names_from : List ℕ → List Entry → ℕ → List Entry → List (List ℕ)
names_from spec all k [] = []
names_from spec all k (e ∷ es) = name_at spec all k ∷ names_from spec all (suc k) es

abbrev pub declared_names : List ℕ → List Entry → List (List ℕ)
declared_names spec entries = names_from spec entries 0 entries

-- Of the statements, the first of which has this number: the k-th public one has the k-th of the names, counted from the
-- one given, and a local one the prefix, `l` and its number.
abbrev pub statement_names : List (List ℕ) → List ℕ → ℕ → ℕ → List Marked → List (List ℕ)
statement_names names prefix k number [] = []
statement_names names prefix k number (s ∷ ss) =
    if s.is_local
    then (prefix ++ (codes "l" ++ decimal number)) ∷ statement_names names prefix k (suc number) ss
    else get_or names k [] ∷ statement_names names prefix (suc k) (suc number) ss

-- the statements' own names, by number
abbrev pub naming_of : List ℕ → List Statement → Naming
naming_of prefix ss = record { sorts = sort_names ss; terms = term_names ss; assertions = assertion_names ss; prefix = prefix }

abbrev pub vocabulary_of : List ℕ → List Statement → Vocabulary
vocabulary_of prefix ss = vocabulary_by (naming_of prefix ss)
