-- Lists of nodes by the number of their first one.
use Rattle.std.specs.Prelude.{ℕ, ◌≡◌, ◌≢◌, ◌<◌, ◌+◌, ⊤, Option, Some, None}
use Rattle.mz_sexpr.specs.Node.{Node, Nodes, atom, list, no_nodes, node}
use Rattle.mz_sexpr.specs.Number.{node_count, node_at, nodes_after}

abbrev pub nodes_from : Nodes → Option ℕ → Nodes
nodes_from all None = no_nodes
nodes_from all (Some k) = node (node_at all k) (nodes_after all k)

abbrev pub IsThere : Nodes → Option ℕ → Type 0
IsThere all None = ⊤
IsThere all (Some k) = k < node_count all

abbrev pub count : Nodes → ℕ
count no_nodes = 0
count (node _ ns) = 1 + count ns

-- how many nodes there are, those within others included
abbrev mutual
  pub node_size : Node → ℕ
  node_size (atom _ _) = 1
  node_size (list _ ns) = 1 + nodes_size ns

  pub nodes_size : Nodes → ℕ
  nodes_size no_nodes = 0
  nodes_size (node n ns) = node_size n + nodes_size ns

-- exactly so many nodes, or another number of them
abbrev pub AreOne : Nodes → Option ℕ → Nodes → Type 0
AreOne all None ns = count ns ≢ 1
AreOne all (Some a) ns = (a < node_count all) × (ns ≡ node (node_at all a) no_nodes)

abbrev pub AreTwo : Nodes → Option (ℕ × ℕ) → Nodes → Type 0
AreTwo all None ns = count ns ≢ 2
AreTwo all (Some p) ns = (p.0 < node_count all) × (p.1 < node_count all) × (ns ≡ node (node_at all p.0) (node (node_at all p.1) no_nodes))

abbrev pub AreThree : Nodes → Option (ℕ × ℕ × ℕ) → Nodes → Type 0
AreThree all None ns = count ns ≢ 3
AreThree all (Some p) ns = (p.0 < node_count all) × (p.1 < node_count all) × (p.2 < node_count all)
    × (ns ≡ node (node_at all p.0) (node (node_at all p.1) (node (node_at all p.2) no_nodes)))

abbrev pub AreFour : Nodes → Option (ℕ × ℕ × ℕ × ℕ) → Nodes → Type 0
AreFour all None ns = count ns ≢ 4
AreFour all (Some p) ns = (p.0 < node_count all) × (p.1 < node_count all) × (p.2 < node_count all) × (p.3 < node_count all)
    × (ns ≡ node (node_at all p.0) (node (node_at all p.1) (node (node_at all p.2) (node (node_at all p.3) no_nodes))))

abbrev pub AreFive : Nodes → Option (ℕ × ℕ × ℕ × ℕ × ℕ) → Nodes → Type 0
AreFive all None ns = count ns ≢ 5
AreFive all (Some p) ns = (p.0 < node_count all) × (p.1 < node_count all) × (p.2 < node_count all) × (p.3 < node_count all) × (p.4 < node_count all)
    × (ns ≡ node (node_at all p.0) (node (node_at all p.1) (node (node_at all p.2) (node (node_at all p.3) (node (node_at all p.4) no_nodes)))))

abbrev pub AreSix : Nodes → Option (ℕ × ℕ × ℕ × ℕ × ℕ × ℕ) → Nodes → Type 0
AreSix all None ns = count ns ≢ 6
AreSix all (Some p) ns = (p.0 < node_count all) × (p.1 < node_count all) × (p.2 < node_count all) × (p.3 < node_count all) × (p.4 < node_count all) × (p.5 < node_count all)
    × (ns ≡ node (node_at all p.0) (node (node_at all p.1) (node (node_at all p.2) (node (node_at all p.3) (node (node_at all p.4) (node (node_at all p.5) no_nodes))))))
