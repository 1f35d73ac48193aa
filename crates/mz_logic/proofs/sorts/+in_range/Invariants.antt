use Rattle.std.proofs.Common.{◌↔◌, ◌+◌, ◌*◌}
use Rattle.mz_logic_theory.specs.Tree.{past, size, trees_size}
use Rattle.mz_logic_theory.specs.Declaration.{signatures}
use Rattle.mz_logic_theory.specs.Legality.{AllInRange}
use Rattle.mz_logic.proofs.sorts.+in_range.Given as goal

abbrev pub decreases-all_in_range : goal.decreases-all_in_range
decreases-all_in_range l = 2 * trees_size l.es.now + 1

abbrev pub decreases-in_range : goal.decreases-in_range
decreases-in_range l = 2 * size l.expr.now

abbrev pub invariant-all_in_range-loop-i : goal.invariant-all_in_range-loop-i
invariant-all_in_range-loop-i l = AllInRange (signatures l.env) l.end (past l.i l.es) ↔ AllInRange (signatures l.env) l.end l.es
