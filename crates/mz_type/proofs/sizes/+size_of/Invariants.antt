use Rattle.std.proofs.Common.{◌≡◌, ◌≤◌, ◌+◌, ◌*◌, drop}
use Rattle.mz_logic_theory.specs.Tree.{size, trees_size}
use Rattle.mz_logic_theory.specs.View.{tree, trees}
use Rattle.mz_type.proofs.sizes.+size_of.Given as goal

abbrev pub decreases-size_of : goal.decreases-size_of
decreases-size_of l = 2 * size (tree l.expr.now)

abbrev pub decreases-sizes_of : goal.decreases-sizes_of
decreases-sizes_of l = 2 * trees_size l.es.now + 1

abbrev pub invariant-sizes_of-loop-e : goal.invariant-sizes_of-loop-e
invariant-sizes_of-loop-e l =
    (l.total + trees_size (trees (drop l.e-index l.e-items)) ≡ trees_size l.es) × (trees_size (trees (drop l.e-index l.e-items)) ≤ trees_size l.es)
