use Rattle.std.proofs.Common.{◌≡◌, ◌+◌, ◌*◌, ◌++◌}
use Rattle.mz_logic_theory.specs.Tree.{past, size, trees_size}
use Rattle.mz_prefix.specs.Names.{spoken}
use Rattle.mz_prefix.proofs.Parts.{operands_text}
use Rattle.mz_prefix.proofs.names.Names.+put_expr.Given as goal

abbrev pub decreases-put_expr : goal.decreases-put_expr
decreases-put_expr l = 3 * size l.expr.now

abbrev pub decreases-put_operand : goal.decreases-put_operand
decreases-put_operand l = 3 * size l.expr.now + 1

abbrev pub decreases-put_operands : goal.decreases-put_operands
decreases-put_operands l = 3 * trees_size l.es.now + 2

abbrev pub invariant-put_operands-loop-i : goal.invariant-put_operands-loop-i
invariant-put_operands-loop-i l = l.out.items ++ operands_text (spoken l.self) (past l.i l.es) ≡ l.initial.out.items ++ operands_text (spoken l.self) l.es
