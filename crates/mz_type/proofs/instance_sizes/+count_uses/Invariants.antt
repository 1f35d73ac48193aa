use Rattle.std.proofs.Common.{◌≡◌, ◌<◌, ◌^◌, ◌+◌, ◌*◌, sum_by}
use Rattle.mz_logic_theory.specs.Tree.{past, size, trees_size}
use Rattle.mz_type.specs.Shapes.{all_counted}
use Rattle.mz_type.proofs.instance_sizes.+count_uses.Given as goal

abbrev pub decreases-count_all : goal.decreases-count_all
decreases-count_all l = 2 * trees_size l.es.now + 1

abbrev pub decreases-count_uses : goal.decreases-count_uses
decreases-count_uses l = 2 * size l.expr.now

abbrev pub invariant-count_all-loop-i : goal.invariant-count_all-loop-i
invariant-count_all-loop-i l = record {
  left : all_counted l.uses (past l.i l.es) ≡ all_counted l.fn.uses l.es;
  room : sum_by (λ u. u) l.uses + trees_size (past l.i l.es) < 2 ^ 64;
}
