use Rattle.mz_math_operators.proofs.Noting.{AreNoted}
use Rattle.mz_math_operators.proofs.ambiguity.keeps_own_levels.Given as goal

abbrev pub invariant-loop-element : goal.invariant-loop-element
invariant-loop-element l = AreNoted l.levels l.elements l.element-index
