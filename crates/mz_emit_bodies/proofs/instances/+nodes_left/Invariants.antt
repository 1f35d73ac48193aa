use Rattle.std.proofs.Common.{◌+◌, ◌*◌}
use Rattle.mz_logic_theory.specs.Tree.{size, trees_size}
use Rattle.mz_emit_bodies.proofs.instances.+nodes_left.Given as goal

abbrev pub decreases-nodes_left : goal.decreases-nodes_left
decreases-nodes_left l = 2 * size l.expr.now

abbrev pub decreases-nodes_left_by_all : goal.decreases-nodes_left_by_all
decreases-nodes_left_by_all l = 2 * trees_size l.es.now + 1
