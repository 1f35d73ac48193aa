use Rattle.std.proofs.Common.{ℕ, ◌<◌}
use Rattle.mz_logic_theory.specs.Variables.{AreDisjointAt}
use Rattle.mz_logic.proofs.disjoint.are_disjoint_from.Given as goal

abbrev pub invariant-loop-i : goal.invariant-loop-i
invariant-loop-i l = (k : ℕ) → k < l.i → AreDisjointAt l.ctx l.es l.params k l.j
