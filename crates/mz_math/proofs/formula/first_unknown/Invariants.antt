use Rattle.std.proofs.Common.{drop}
use Rattle.mz_base.proofs.Offered.{Decides}
use Rattle.mz_math_theory.specs.Formula.{known_checks}
use Rattle.mz_math.proofs.formula.first_unknown.Given as goal

abbrev pub invariant-loop-i : goal.invariant-loop-i
invariant-loop-i l = Decides (known_checks l.words l.text (drop l.i l.pieces)) (known_checks l.words l.text l.pieces)
