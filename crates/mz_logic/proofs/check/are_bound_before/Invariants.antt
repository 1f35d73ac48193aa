use Rattle.std.proofs.Common.{◌<◌}
use Rattle.mz_base.proofs.Offered.{AllSoFar}
use Rattle.mz_logic_theory.specs.Variables.{IsBoundAt}
use Rattle.mz_logic.proofs.check.are_bound_before.Given as goal

abbrev pub invariant-loop-j : goal.invariant-loop-j
invariant-loop-j l = AllSoFar (λ j. (j < l.end) × IsBoundAt l.params j) l.j-items l.j-index
