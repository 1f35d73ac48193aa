use Rattle.std.proofs.Common.{◌≡◌, ◌+◌, drop}
use Rattle.mz_logic_theory.specs.Tree.{trees_size}
use Rattle.mz_logic_theory.specs.View.{trees}
use Rattle.mz_logic_theory.proofs.Offered.{exprs_of}
use Rattle.mz_type.proofs.sizes.sizes_of_hyps.Given as goal

abbrev pub invariant-loop-i : goal.invariant-loop-i
invariant-loop-i l = l.total + trees_size (trees (drop l.i (exprs_of l.hyps))) ≡ trees_size l.hyps
