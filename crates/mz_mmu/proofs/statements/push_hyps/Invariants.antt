use Rattle.std.proofs.Common.{◌+◌, ◌<◌, ◌^◌, ℕ, List, length}
use Rattle.mz_base.proofs.Offered.{Decides}
use Rattle.mz_logic_theory.specs.Tree.{Trees, followed_by}
use Rattle.mz_sexpr.specs.Number.{node_at}
use Rattle.mz_mmu_theory.specs.Cursor.{nodes_from, IsThere, nodes_size}
use Rattle.mz_mmu_theory.specs.Statements.{AreHyps, AreNamedHyps}
use Rattle.mz_mmu_theory.specs.StatementOrder.{hyp_asked, hyps_asked}
use Rattle.mz_mmu_theory.specs.FormOrder.{binders_asked}
use Rattle.mz_mmu_forms.specs.ScopeView.{scope}
use Rattle.mz_mmu.proofs.statements.push_hyps.Given as goal

abbrev pub decreases-loop-left : goal.decreases-loop-left
decreases-loop-left l = nodes_size (nodes_from l.reader.nodes.now l.left)

abbrev pub invariant-loop-left : goal.invariant-loop-left
invariant-loop-left l = record {
  there : IsThere l.reader.nodes.now l.left;
  few : length l.labels + nodes_size (nodes_from l.reader.nodes.now l.left) < 2 ^ 32;
  read : (es : Trees) (after : List (List ℕ)) → AreHyps (scope l.sc) l.labels (nodes_from l.reader.nodes.now l.left) es after
      → AreNamedHyps (scope l.sc) (node_at l.reader.nodes.now l.n) (followed_by l.hyps es) after;
  asked : Decides (binders_asked (hyp_asked (scope l.sc)) l.labels (nodes_from l.reader.nodes.now l.left)) (hyps_asked (scope l.sc) (node_at l.reader.nodes.now l.n));
}
