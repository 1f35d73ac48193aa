use Rattle.std.proofs.Common.{◌+◌, ◌<◌, ◌^◌, ℕ, List, ◌++◌, length}
use Rattle.mz_base.proofs.Offered.{Decides}
use Rattle.mz_logic_theory.specs.declared.binder.Binder.{Binder}
use Rattle.mz_sexpr.specs.Number.{node_at}
use Rattle.mz_mmu_theory.specs.Cursor.{nodes_from, IsThere, nodes_size}
use Rattle.mz_mmu_theory.specs.Expressions.{IsParam, AreBinders, AreParams}
use Rattle.mz_mmu_theory.specs.FormOrder.{param_asked, binders_asked, params_asked}
use Rattle.mz_mmu_forms.specs.ScopeView.{names}
use Rattle.mz_mmu_forms.proofs.reader.Reader.params.Given as goal

abbrev pub decreases-loop-left : goal.decreases-loop-left
decreases-loop-left l = nodes_size (nodes_from l.self.nodes.now l.left)

abbrev pub invariant-loop-left : goal.invariant-loop-left
invariant-loop-left l = record {
  there : IsThere l.self.nodes.now l.left;
  few : length l.vars + nodes_size (nodes_from l.self.nodes.now l.left) < 2 ^ 32;
  read : (bs : List Binder) (after : List (List ℕ)) → AreBinders (IsParam (names l.names)) l.vars (nodes_from l.self.nodes.now l.left) bs after
      → AreParams (names l.names) (node_at l.self.nodes.now l.n) (l.params ++ bs) after;
  asked : Decides (binders_asked (param_asked (names l.names)) l.vars (nodes_from l.self.nodes.now l.left)) (params_asked (names l.names) (node_at l.self.nodes.now l.n));
}
