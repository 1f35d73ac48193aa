use Rattle.std.proofs.Common.{◌≡◌, ◌↔◌, ◌+◌, ◌*◌, drop, length}
use Rattle.mz_logic_theory.specs.Tree.{listed, past, size, trees_size}
use Rattle.mz_logic_theory.specs.Declaration.{signatures}
use Rattle.mz_logic_theory.specs.Variables.{InSomeFV}
use Rattle.mz_logic_theory.specs.Legality.{AllInRange}
use Rattle.mz_logic.proofs.vars.+in_free_tree.Given as goal

abbrev pub decreases-in_some_free_tree : goal.decreases-in_some_free_tree
decreases-in_some_free_tree l = 3 * trees_size l.es.now + 2

abbrev pub decreases-in_free_tree : goal.decreases-in_free_tree
decreases-in_free_tree l = 3 * size l.expr.now

abbrev pub decreases-is_free_operand : goal.decreases-is_free_operand
decreases-is_free_operand l = 3 * size l.operand.now + 1

abbrev pub invariant-in_some_free_tree-loop-i : goal.invariant-in_some_free_tree-loop-i
invariant-in_some_free_tree-loop-i l =
    (InSomeFV (signatures l.env) l.ctx l.x l.params l.es (drop l.i l.params) (past l.i l.es) ↔ InSomeFV (signatures l.env) l.ctx l.x l.params l.es l.params l.es)
    × AllInRange (signatures l.env) (length l.ctx) (past l.i l.es)
    × (length (listed l.es) ≡ length l.params)
