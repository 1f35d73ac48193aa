use Rattle.mz_base.proofs.Offered.{Decides}
use Rattle.mz_mmu_theory.specs.Cursor.{nodes_from, IsThere, nodes_size}
use Rattle.mz_mmu_theory.specs.Statements.{Modifiers, no_modifiers, AreModifiers}
use Rattle.mz_mmu_theory.specs.StatementView.{modifiers}
use Rattle.mz_mmu_theory.specs.StatementOrder.{modifiers_asked}
use Rattle.mz_mmu.proofs.statements.modifiers.Given as goal

abbrev pub decreases-loop-left : goal.decreases-loop-left
decreases-loop-left l = nodes_size (nodes_from l.reader.nodes.now l.left)

abbrev pub invariant-loop-left : goal.invariant-loop-left
invariant-loop-left l = record {
  there : IsThere l.reader.nodes.now l.left;
  read : (m : Modifiers) → AreModifiers (modifiers l.modifiers) (nodes_from l.reader.nodes.now l.left) m → AreModifiers no_modifiers (nodes_from l.reader.nodes.now l.fn.first) m;
  asked : Decides (modifiers_asked (modifiers l.modifiers) (nodes_from l.reader.nodes.now l.left)) (modifiers_asked no_modifiers (nodes_from l.reader.nodes.now l.fn.first));
}
