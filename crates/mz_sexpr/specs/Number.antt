-- Nodes by their numbers: counted from 0 in the order of their first bytes (this project's own).
use Rattle.std.specs.Prelude.{ℕ, ◌≡◌, ◌<◌, List, [], ◌∷◌, ◌++◌, length, Option, Some, None, get_or}
use Rattle.mz_sexpr.specs.Node.{Node, Nodes, atom, list, no_nodes, node}

-- for each node, in the order of the first bytes: it and the later nodes of its list
abbrev mutual
  pub tails_within : Node → List Nodes
  tails_within (atom _ _) = []
  tails_within (list _ ns) = tails ns

  pub tails : Nodes → List Nodes
  tails no_nodes = []
  tails (node n ns) = node n ns ∷ tails_within n ++ tails ns

abbrev pub node_count : Nodes → ℕ
node_count all = length (tails all)

abbrev pub first : Nodes → Node
first no_nodes = atom 0 []
first (node n _) = n

abbrev pub rest : Nodes → Nodes
rest no_nodes = no_nodes
rest (node _ ns) = ns

-- the node of this number, of those below `node_count`
abbrev pub node_at : Nodes → ℕ → Node
node_at all k = first (get_or (tails all) k no_nodes)

-- the later nodes of its list
abbrev pub nodes_after : Nodes → ℕ → Nodes
nodes_after all k = rest (get_or (tails all) k no_nodes)

-- a list of nodes by the number of its first one: none exactly for the list without nodes
abbrev pub StandsFor : Nodes → Option ℕ → Nodes → Type 0
StandsFor all None ns = ns ≡ no_nodes
StandsFor all (Some k) ns = (k < node_count all) × (ns ≡ node (node_at all k) (nodes_after all k))
