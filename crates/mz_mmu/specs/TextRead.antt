-- What reading a text answers.
use Rattle.std.specs.Prelude.{ℕ, ◌≡◌, ⊤, Bool, List, [], ◌∷◌}
use Rattle.mz_sexpr.specs.Node.{Node, Nodes, no_nodes, node}
use Rattle.mz_mmu_theory.specs.Statements.{Reads}
use Rattle.mz_mmu_theory.specs.StatementOrder.{Refuses}
use Rattle.mz_mmu.specs.declared.text.TextRead.{TextRead}
use Rattle.mz_mmu.specs.declared.text.TextRead.TheVariants as read

-- the text's statements, whose proofs may have gaps or not, or the first rule that it breaks
abbrev pub IsReading : Bool → List ℕ → TextRead → Type 0
IsReading gaps text (read.Text t) = (t.gaps ≡ gaps) × Reads gaps text t.nodes t.statements
IsReading gaps text (read.Refused r) = Refuses gaps text r
IsReading gaps text read.Mem = ⊤

-- the nodes as a list
abbrev pub listed : Nodes → List Node
listed no_nodes = []
listed (node n ns) = n ∷ listed ns
