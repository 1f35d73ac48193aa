use Rattle.mz_math.proofs.Claiming.{IsFoundOf}
use Rattle.mz_math.proofs.formula.only_provable.Given as goal

abbrev pub invariant-sorts : goal.invariant-sorts
invariant-sorts l = IsFoundOf l.env l.reached l.i l.found
