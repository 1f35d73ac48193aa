-- The type rules of a text: those of its statements, one after another (this project's own order).
use Rattle.std.specs.Prelude.{ℕ, suc, List, [], ◌∷◌, ◌++◌}
use Rattle.mz_base.specs.Checks.{Checks, nothing, ◌>>◌, retold}
use Rattle.mz_sexpr.specs.declared.rule.TextRefusal.{TextRefusal}
use Rattle.mz_sexpr.specs.Node.{Nodes}
use Rattle.mz_sexpr.specs.Number.{first, rest}
use Rattle.mz_logic_theory.specs.Declaration.{Declaration}
use Rattle.mz_mmu_theory.specs.StatementOrder.{in_statement}
use Rattle.mz_mmu_theory.specs.Statements.{Statement}
use Rattle.mz_mmu_theory.specs.Rules.{statement_rules}

-- the k-th statement and those behind it, over what was declared before
abbrev pub rules_from : ℕ → List Declaration → List Statement → Nodes → Checks TextRefusal
rules_from k env [] ns = nothing
rules_from k env (s ∷ ss) ns = retold (in_statement k) (statement_rules env s (first ns)) >> rules_from (suc k) (env ++ s.decl ∷ []) ss (rest ns)

-- all type rules of a text
abbrev pub text_rules : Nodes → List Statement → Checks TextRefusal
text_rules ns ss = rules_from 1 [] ss ns
