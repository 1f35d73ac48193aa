use Rattle.std.proofs.Common.{ℕ, suc, ◌+◌, ◌<◌, ◌^◌, List, ◌++◌, length, map}
use Rattle.mz_base.proofs.Offered.{Decides}
use Rattle.mz_base.specs.Gaps.{gaps_of}
use Rattle.mz_mmu_theory.specs.Cursor.{nodes_from, IsThere, nodes_size}
use Rattle.mz_mmu.specs.EntryView.{entry, root, AreNumbers}
use Rattle.mz_mmu_theory.specs.NamesMore.{AreFew}
use Rattle.mz_mmu_theory.specs.Statements.{Statement, AreStatements}
use Rattle.mz_mmu_theory.specs.Name.{no_names}
use Rattle.mz_mmu_theory.specs.StatementOrder.{statements_asked}
use Rattle.mz_mmu_forms.specs.ScopeView.{names}
use Rattle.mz_mmu_theory.proofs.Offered.{Agrees}
use Rattle.mz_mmu.proofs.text.read_all.Given as goal

abbrev pub decreases-loop-left : goal.decreases-loop-left
decreases-loop-left l = nodes_size (nodes_from l.nodes l.left)

abbrev pub invariant-loop-left : goal.invariant-loop-left
invariant-loop-left l = record {
  there : IsThere l.nodes l.left;
  few : length l.entries.items + nodes_size (nodes_from l.nodes l.left) < 2 ^ 32;
  counts : AreFew (names l.names) (length l.entries.items);
  agrees : Agrees (names l.names);
  read : (ss : List Statement) → AreStatements (names l.names) (nodes_from l.nodes l.left) ss → AreStatements (no_names (gaps_of l.fn.names.mode)) l.nodes (map entry l.entries.items ++ ss);
  roots : (ks : List ℕ) → AreNumbers l.nodes (nodes_from l.nodes l.left) ks → AreNumbers l.nodes l.nodes (map root l.entries.items ++ ks);
  asked : Decides (statements_asked (suc (length l.entries.items)) (names l.names) (nodes_from l.nodes l.left)) (statements_asked 1 (no_names (gaps_of l.fn.names.mode)) l.nodes);
}
