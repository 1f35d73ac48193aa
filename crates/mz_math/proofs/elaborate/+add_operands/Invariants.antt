use Rattle.std.proofs.Common.{◌≡◌, ◌≤◌, ◌+◌, ◌*◌, length, drop}
use Rattle.mz_math_coercions.specs.Found.{AreFound}
use Rattle.mz_math_theory.specs.Meaning.{CoercedAll, trees_height}
use Rattle.mz_logic_theory.specs.Tree.{Trees, followed_by, listed, past, size, trees_size}
use Rattle.mz_logic_theory.specs.Declaration.{signatures}
use Rattle.mz_math.proofs.elaborate.+add_operands.Given as goal

abbrev pub decreases-add_operands : goal.decreases-add_operands
decreases-add_operands l = 3 * trees_size l.operands.now + 2

abbrev pub decreases-add_operand : goal.decreases-add_operand
decreases-add_operand l = 3 * size l.operand.now + 1

abbrev pub invariant-add_operands-loop-i : goal.invariant-add_operands-loop-i
invariant-add_operands-loop-i l = record {
  goes_on : (fs : Trees) → CoercedAll (signatures l.env) l.coercions l.ctx (past l.i l.operands) (drop l.i l.params) fs
      → CoercedAll (signatures l.env) l.coercions l.ctx l.operands l.params (followed_by l.all fs);
  there : (fs : Trees) × CoercedAll (signatures l.env) l.coercions l.ctx (past l.i l.operands) (drop l.i l.params) fs;
  many : length (listed l.operands) ≡ length l.params;
  low : trees_height l.all ≤ l.most;
  found : AreFound l.coercions l.paths;
}
