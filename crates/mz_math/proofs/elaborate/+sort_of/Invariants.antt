use Rattle.std.proofs.Common.{◌≡◌, ◌↔◌, ◌+◌, ◌*◌, length, drop}
use Rattle.mz_math_coercions.specs.Found.{AreFound}
use Rattle.mz_math_theory.specs.Meaning.{CoercedAll}
use Rattle.mz_logic_theory.specs.Tree.{Trees, listed, past, size, trees_size}
use Rattle.mz_logic_theory.specs.Declaration.{signatures}
use Rattle.mz_math.proofs.elaborate.+sort_of.Given as goal

abbrev pub decreases-sort_of : goal.decreases-sort_of
decreases-sort_of l = 3 * size l.tree.now

abbrev pub decreases-all_fit : goal.decreases-all_fit
decreases-all_fit l = 3 * trees_size l.operands.now + 2

abbrev pub decreases-fits : goal.decreases-fits
decreases-fits l = 3 * size l.operand.now + 1

abbrev pub invariant-all_fit-loop-i : goal.invariant-all_fit-loop-i
invariant-all_fit-loop-i l = record {
  left : ((fs : Trees) × CoercedAll (signatures l.env) l.coercions l.ctx (past l.i l.operands) (drop l.i l.params) fs)
      ↔ ((fs : Trees) × CoercedAll (signatures l.env) l.coercions l.ctx l.operands l.params fs);
  many : length (listed l.operands) ≡ length l.params;
  found : AreFound l.coercions l.paths;
}
