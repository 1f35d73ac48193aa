-- The statements of a text, one by one.
use Rattle.std.specs.Prelude.{ℕ, false, List, [], map, get_or, None}
use Rattle.mz_logic_theory.specs.Declaration.{Declaration, sort_decl}
use Rattle.mz_mmu_theory.specs.Statements.{Statement}

-- the i-th statement; past the end, where nothing looks, a sort
abbrev pub statement_at : List Statement → ℕ → Statement
statement_at ss i = get_or ss i (record { is_local = false; name = []; decl = sort_decl (record { 0 = 0 }); dummies = []; proof = None })

-- what statements declare
abbrev pub declared : List Statement → List Declaration
declared ss = map (λ s. s.decl) ss
