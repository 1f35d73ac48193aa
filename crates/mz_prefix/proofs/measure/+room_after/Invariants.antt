use Rattle.std.proofs.Common.{◌≡◌, ◌+◌, ◌*◌}
use Rattle.mz_logic_theory.specs.Tree.{past, size, trees_size}
use Rattle.mz_prefix.specs.Measures.{operand_count}
use Rattle.mz_prefix.proofs.measure.+room_after.Given as goal

abbrev pub decreases-room_after : goal.decreases-room_after
decreases-room_after l = 3 * size l.expr.now

abbrev pub decreases-room_after_operand : goal.decreases-room_after_operand
decreases-room_after_operand l = 3 * size l.expr.now + 1

abbrev pub decreases-room_after_operands : goal.decreases-room_after_operands
decreases-room_after_operands l = 3 * trees_size l.es.now + 2

abbrev pub invariant-room_after_operands-loop-i : goal.invariant-room_after_operands-loop-i
invariant-room_after_operands-loop-i l = l.left + operand_count l.es ≡ l.room + operand_count (past l.i l.es)
