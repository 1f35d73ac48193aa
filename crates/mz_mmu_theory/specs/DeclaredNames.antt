-- The names that the statements of a text declare, and the underscores with which names begin (this project's own).
use Rattle.std.specs.Prelude.{◌==◌, ◌++◌, ℕ, suc, max, List, [], ◌∷◌, replicate, if◌then◌else◌}
use Rattle.mz_logic_theory.specs.Declaration.{Declaration, sort_decl, term_decl, assertion_decl}
use Rattle.mz_mmu_theory.specs.Statements.{Statement}

-- with how many underscores a name begins
abbrev pub underscores : List ℕ → ℕ
underscores [] = 0
underscores (b ∷ bs) = if b == 95 then suc (underscores bs) else 0

-- the longest run of underscores with which one of these begins
abbrev pub longest_run : List (List ℕ) → ℕ
longest_run [] = 0
longest_run (w ∷ ws) = max (underscores w) (longest_run ws)

-- one underscore more: none of these begins with it
abbrev pub prefix_beside : List (List ℕ) → List ℕ
prefix_beside names = replicate (suc (longest_run names)) 95

-- of all statements, in order
abbrev pub text_names : List Statement → List (List ℕ)
text_names [] = []
text_names (s ∷ ss) = s.name ∷ text_names ss

-- the name, where a sort is declared; where a term is; where an axiom or theorem is
abbrev pub sort_name : Declaration → List ℕ → List (List ℕ)
sort_name (sort_decl _) name = name ∷ []
sort_name (term_decl _) name = []
sort_name (assertion_decl _) name = []

abbrev pub term_name : Declaration → List ℕ → List (List ℕ)
term_name (sort_decl _) name = []
term_name (term_decl _) name = name ∷ []
term_name (assertion_decl _) name = []

abbrev pub assertion_name : Declaration → List ℕ → List (List ℕ)
assertion_name (sort_decl _) name = []
assertion_name (term_decl _) name = []
assertion_name (assertion_decl _) name = name ∷ []

-- by their numbers, local ones included
abbrev pub sort_names : List Statement → List (List ℕ)
sort_names [] = []
sort_names (s ∷ ss) = sort_name s.decl s.name ++ sort_names ss

abbrev pub term_names : List Statement → List (List ℕ)
term_names [] = []
term_names (s ∷ ss) = term_name s.decl s.name ++ term_names ss

abbrev pub assertion_names : List Statement → List (List ℕ)
assertion_names [] = []
assertion_names (s ∷ ss) = assertion_name s.decl s.name ++ assertion_names ss
