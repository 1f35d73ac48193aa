-- Atoms and parentheses with their places, and those that spell nodes (this project's own form).
use Rattle.std.specs.Prelude.{ℕ, List, [], ◌∷◌, ◌++◌}
use Rattle.mz_sexpr.specs.Node.{Node, Nodes, atom, list, no_nodes, node}

pub data Token : Type 0 where
  open_at : ℕ → Token
  close : Token
  word_at : ℕ → List ℕ → Token

-- a list is its parts between parentheses
abbrev mutual
  pub spelled_node : Node → List Token
  spelled_node (atom at w) = word_at at w ∷ []
  spelled_node (list at ns) = open_at at ∷ spelled ns ++ close ∷ []

  pub spelled : Nodes → List Token
  spelled no_nodes = []
  spelled (node n ns) = spelled_node n ++ spelled ns
