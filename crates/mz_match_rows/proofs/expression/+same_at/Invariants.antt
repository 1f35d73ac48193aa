use Rattle.std.proofs.Common.{◌≡◌, ◌+◌, ◌*◌, length}
use Rattle.mz_logic_theory.specs.Tree.{Trees, listed, past, size, trees_size}
use Rattle.mz_machine_theory.specs.Spells.{Marks}
use Rattle.mz_match_rows.specs.declared.stream.Cursor.{Cursor}
use Rattle.mz_spec_proved_theory.specs.Comparison.{all_compared}
use Rattle.mz_match_rows.specs.Beside.{AllSaidAt, IsStream, beside}
use Rattle.mz_match_rows.proofs.expression.+same_at.Given as goal

abbrev pub decreases-same_at : goal.decreases-same_at
decreases-same_at l = 4 * size l.expr.now + 2

abbrev pub decreases-same_mark : goal.decreases-same_mark
decreases-same_mark l = 4 * size l.expr.now + 1

abbrev pub decreases-same_made : goal.decreases-same_made
decreases-same_made l = 4 * size l.expr.now

abbrev pub decreases-same_all : goal.decreases-same_all
decreases-same_all l = 4 * trees_size l.exprs.now + 3

abbrev pub invariant-same_all-loop-i : goal.invariant-same_all-loop-i
invariant-same_all-loop-i l = (m : Marks) (fs : Trees) (to : Cursor) → IsStream l.sides m → AllSaidAt l.sides m l.fn.from fs to → length (listed l.exprs) ≡ length (listed fs)
    → (rest : Trees) × AllSaidAt l.sides m l.place rest to × (length (listed (past l.i l.exprs)) ≡ length (listed rest))
    × (all_compared (beside l.sides m) l.fn.pairs l.exprs fs ≡ all_compared (beside l.sides m) l.pairs (past l.i l.exprs) rest)
