-- A proof as numbered nodes, of which each has its parts among the earlier ones (this project's own form of proofs that
-- share their parts).
use Rattle.std.specs.Prelude.{ℕ, ◌<◌, ◌^◌, List, length}
use Rattle.mz_machine_theory.specs.MachineState.{RowsBefore}
use Rattle.mz_trace.specs.Nodes.{values, HaveParts, AreProofs, IsProof}
use Rattle.mz_trace.specs.declared.node.RunNode.{RunNode}

-- the nodes; by their numbers the proofs with names, in order, and the one that is left behind them; and the sorts of the
-- dummies, in order
pub record Numbered : Type 0 where
  pub nodes : List RunNode
  pub lets : List ℕ
  pub root : ℕ
  pub dummies : List ℕ

abbrev pub numbered : List RunNode → List ℕ → ℕ → List ℕ → Numbered
numbered nodes lets root dummies = record { nodes = nodes; lets = lets; root = root; dummies = dummies }

-- over some rows each node has its parts before it; what has a name is a proof, and so is what is left; names are counted in
-- 32 bits
pub record IsWhole (p : Numbered) : Type 0 where
  pub tables : RowsBefore
  pub parts : HaveParts tables p.nodes
  pub lets : AreProofs (values p.nodes) p.lets
  pub root : IsProof (values p.nodes) p.root
  pub few : length p.lets < 2 ^ 32
