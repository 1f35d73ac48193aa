use Rattle.mz_base.proofs.Offered.{Decides}
use Rattle.mz_logic_theory.specs.Tree.{Trees, followed_by}
use Rattle.mz_mmu_theory.specs.Cursor.{nodes_from, IsThere, nodes_size}
use Rattle.mz_mmu_theory.specs.Expressions.{AreExprs}
use Rattle.mz_mmu_theory.specs.FormOrder.{exprs_asked}
use Rattle.mz_mmu_forms.specs.ScopeView.{scope}
use Rattle.mz_mmu_forms.proofs.reader.Reader.exprs.Given as goal

abbrev pub decreases-loop-left : goal.decreases-loop-left
decreases-loop-left l = nodes_size (nodes_from l.self.nodes.now l.left)

abbrev pub invariant-loop-left : goal.invariant-loop-left
invariant-loop-left l = record {
  there : IsThere l.self.nodes.now l.left;
  read : (es : Trees) → AreExprs (scope l.sc) (nodes_from l.self.nodes.now l.left) es
      → AreExprs (scope l.sc) (nodes_from l.self.nodes.now l.fn.first) (followed_by l.exprs es);
  asked : Decides (exprs_asked (scope l.sc) (nodes_from l.self.nodes.now l.left)) (exprs_asked (scope l.sc) (nodes_from l.self.nodes.now l.fn.first));
}
