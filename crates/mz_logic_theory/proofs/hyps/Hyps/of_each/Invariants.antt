use Rattle.std.proofs.Common.{◌≡◌}
use Rattle.mz_logic_theory.proofs.Grouped.{once}
use Rattle.mz_logic_theory.proofs.hyps.Hyps.of_each.Given as goal

abbrev pub invariant-loop-i : goal.invariant-loop-i
invariant-loop-i l = l.ends.items ≡ once 0 l.i
