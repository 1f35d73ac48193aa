use Rattle.std.proofs.Common.{◌≡◌, ◌↔◌, ◌+◌, ◌*◌, drop, length}
use Rattle.mz_logic_theory.specs.Tree.{listed, past, size, trees_size}
use Rattle.mz_logic_theory.specs.Declaration.{signatures}
use Rattle.mz_logic_theory.specs.Legality.{AllInRange, OperandsOf, BoundFit}
use Rattle.mz_logic.proofs.sorts.+have_bound_operands.Given as goal

abbrev pub decreases-have_bound_operands : goal.decreases-have_bound_operands
decreases-have_bound_operands l = 2 * trees_size l.es.now + 1

abbrev pub decreases-has_bound_operands : goal.decreases-has_bound_operands
decreases-has_bound_operands l = 2 * size l.expr.now

abbrev pub invariant-have_bound_operands-loop-i : goal.invariant-have_bound_operands-loop-i
invariant-have_bound_operands-loop-i l =
    (OperandsOf (signatures l.env) (BoundFit l.ctx) (past l.i l.es) (drop l.i l.params) ↔ OperandsOf (signatures l.env) (BoundFit l.ctx) l.es l.params)
    × AllInRange (signatures l.env) (length l.ctx) (past l.i l.es)
    × (length (listed l.es) ≡ length l.params)
