use Rattle.std.proofs.Common.{◌≤◌, ◌+◌, ◌*◌, ◌↔◌, drop}
use Rattle.mz_logic_theory.specs.Tree.{size, trees_size}
use Rattle.mz_logic_theory.specs.View.{tree, trees}
use Rattle.mz_math_theory.specs.Meaning.{trees_height}
use Rattle.mz_math.proofs.height.+is_low.Given as goal

abbrev pub decreases-is_low : goal.decreases-is_low
decreases-is_low l = 2 * size (tree l.expr.now)

abbrev pub decreases-are_low : goal.decreases-are_low
decreases-are_low l = 2 * trees_size l.es.now + 1

abbrev pub invariant-are_low-loop-e : goal.invariant-are_low-loop-e
invariant-are_low-loop-e l =
    ((trees_height (trees (drop l.e-index l.e-items)) ≤ l.most) ↔ (trees_height l.es ≤ l.most)) × (trees_size (trees (drop l.e-index l.e-items)) ≤ trees_size l.es)
