use Rattle.std.proofs.Common.{ℕ, ◌<◌}
use Rattle.mz_logic_theory.specs.Variables.{AreDisjointAt}
use Rattle.mz_logic.proofs.disjoint.are_disjoint_by_pairs.Given as goal

abbrev pub invariant-loop-j : goal.invariant-loop-j
invariant-loop-j l = (k : ℕ) → k < l.j → (i : ℕ) → AreDisjointAt l.ctx l.es l.params i k
