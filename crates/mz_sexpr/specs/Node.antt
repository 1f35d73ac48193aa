-- Nodes of a text, as s-expressions have them (this project's own form).
use Rattle.std.specs.Prelude.{ℕ, suc, max, Bool, true, false, List, []}

-- an atom with its bytes, or a list of nodes, with the place of its first byte
mutual
  pub data Node : Type 0 where
    atom : (at : ℕ) → List ℕ → Node
    list : (at : ℕ) → Nodes → Node

  pub data Nodes : Type 0 where
    no_nodes : Nodes
    node : Node → Nodes → Nodes

-- ---- parts of a node

abbrev pub place : Node → ℕ
place (atom at _) = at
place (list at _) = at

abbrev pub is_atom : Node → Bool
is_atom (atom _ _) = true
is_atom (list _ _) = false

-- an atom's bytes, none for a list
abbrev pub word : Node → List ℕ
word (atom _ w) = w
word (list _ _) = []

-- a list's nodes, none for an atom
abbrev pub parts : Node → Nodes
parts (atom _ _) = no_nodes
parts (list _ ns) = ns

-- ---- how deep lists stand in one another

abbrev mutual
  pub node_height : Node → ℕ
  node_height (atom _ _) = 0
  node_height (list _ ns) = suc (height ns)

  pub height : Nodes → ℕ
  height no_nodes = 0
  height (node n ns) = max (node_height n) (height ns)

-- no more lists than these stand in one another
abbrev pub depth_limit : ℕ
depth_limit = 4096
