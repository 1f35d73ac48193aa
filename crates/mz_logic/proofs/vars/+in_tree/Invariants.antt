use Rattle.std.proofs.Common.{◌↔◌, ◌≤◌, ◌+◌, ◌*◌, drop, length}
use Rattle.mz_logic_theory.specs.Tree.{size, trees_size}
use Rattle.mz_logic_theory.specs.Declaration.{signatures}
use Rattle.mz_logic_theory.specs.Variables.{InSomeV}
use Rattle.mz_logic_theory.specs.Legality.{AllInRange}
use Rattle.mz_logic_theory.specs.View.{tree, trees}
use Rattle.mz_logic.proofs.vars.+in_tree.Given as goal

abbrev pub decreases-in_some_tree : goal.decreases-in_some_tree
decreases-in_some_tree l = 2 * trees_size l.es.now + 1

abbrev pub decreases-in_tree : goal.decreases-in_tree
decreases-in_tree l = 2 * size (tree l.expr.now)

abbrev pub invariant-in_some_tree-loop-e : goal.invariant-in_some_tree-loop-e
invariant-in_some_tree-loop-e l =
    AllInRange (signatures l.env) (length l.ctx) (trees (drop l.e-index l.e-items))
    × (InSomeV l.ctx l.x (trees (drop l.e-index l.e-items)) ↔ InSomeV l.ctx l.x l.es)
    × (trees_size (trees (drop l.e-index l.e-items)) ≤ trees_size l.es)
