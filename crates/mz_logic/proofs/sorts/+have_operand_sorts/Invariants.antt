use Rattle.std.proofs.Common.{◌≡◌, ◌↔◌, ◌+◌, ◌*◌, drop, length}
use Rattle.mz_logic_theory.specs.Tree.{listed, past, size, trees_size}
use Rattle.mz_logic_theory.specs.Declaration.{signatures}
use Rattle.mz_logic_theory.specs.Legality.{AllInRange, OperandsOf, SortsFit}
use Rattle.mz_logic.proofs.sorts.+have_operand_sorts.Given as goal

abbrev pub decreases-have_operand_sorts : goal.decreases-have_operand_sorts
decreases-have_operand_sorts l = 2 * trees_size l.es.now + 1

abbrev pub decreases-has_operand_sorts : goal.decreases-has_operand_sorts
decreases-has_operand_sorts l = 2 * size l.expr.now

abbrev pub invariant-have_operand_sorts-loop-i : goal.invariant-have_operand_sorts-loop-i
invariant-have_operand_sorts-loop-i l =
    (OperandsOf (signatures l.env) (SortsFit (signatures l.env) l.ctx) (past l.i l.es) (drop l.i l.params) ↔ OperandsOf (signatures l.env) (SortsFit (signatures l.env) l.ctx) l.es l.params)
    × AllInRange (signatures l.env) (length l.ctx) (past l.i l.es)
    × (length (listed l.es) ≡ length l.params)
