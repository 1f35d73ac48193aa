use Rattle.std.proofs.Common.{ℕ, List, ◌++◌}
use Rattle.mz_base.proofs.Offered.{Decides}
use Rattle.mz_sexpr.specs.Number.{node_at}
use Rattle.mz_mmu_theory.specs.Cursor.{nodes_from, IsThere, nodes_size}
use Rattle.mz_mmu_theory.specs.Expressions.{AreVariables, IsVariableList}
use Rattle.mz_mmu_theory.specs.FormOrder.{variables_asked, variable_list_asked}
use Rattle.mz_mmu_forms.proofs.reader.Reader.variables.Given as goal

abbrev pub decreases-loop-left : goal.decreases-loop-left
decreases-loop-left l = nodes_size (nodes_from l.self.nodes.now l.left)

abbrev pub invariant-loop-left : goal.invariant-loop-left
invariant-loop-left l = record {
  there : IsThere l.self.nodes.now l.left;
  read : (xs : List ℕ) → AreVariables l.vars (nodes_from l.self.nodes.now l.left) xs → IsVariableList l.vars (node_at l.self.nodes.now l.n) (l.places.items ++ xs);
  asked : Decides (variables_asked l.vars (nodes_from l.self.nodes.now l.left)) (variable_list_asked l.vars (node_at l.self.nodes.now l.n));
}
