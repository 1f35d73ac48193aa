-- How the code keeps the statements of a text.
use Rattle.std.specs.Prelude.{ℕ, Bool, ◌≡◌, ◌<◌, ◌^◌, List, [], ◌∷◌, map, length}
use Rattle.mz_base.specs.Gaps.{gaps_of}
use Rattle.mz_base.specs.declared.mode.Mode.{Mode}
use Rattle.mz_sexpr.specs.Node.{Nodes, no_nodes, node}
use Rattle.mz_sexpr.specs.Number.{node_count, node_at}
use Rattle.mz_mmu_theory.specs.Statements.{Statement, AreStatements}
use Rattle.mz_mmu_theory.specs.Name.{no_names}
use Rattle.mz_mmu_theory.specs.StatementView.{stated}
use Rattle.mz_mmu_theory.specs.TextView.{Forms}
use Rattle.mz_mmu.specs.declared.text.Entry.{Entry}

abbrev pub entry : Entry → Statement
entry e = stated e.is_local e.declared

abbrev pub root : Entry → ℕ
root e = e.root

abbrev pub forms : Mode → Nodes → List Entry → Forms
forms mode nodes entries = record { gaps = gaps_of mode; nodes = nodes; statements = map entry entries }

-- the nodes' numbers are these
abbrev pub AreNumbers : Nodes → Nodes → List ℕ → Type 0
AreNumbers all no_nodes ks = ks ≡ []
AreNumbers all (node n ns) [] = ⊥
AreNumbers all (node n ns) (k ∷ ks) = (k < node_count all) × (n ≡ node_at all k) × AreNumbers all ns ks

pub record IsRooted (gaps : Bool) (nodes : Nodes) (entries : List Entry) : Type 0 where
  pub read : AreStatements (no_names gaps) nodes (map entry entries)
  pub roots : AreNumbers nodes nodes (map root entries)
  pub few : length entries < 2 ^ 32
