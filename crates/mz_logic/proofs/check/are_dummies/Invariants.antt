use Rattle.mz_base.proofs.Offered.{AllSoFar}
use Rattle.mz_logic_theory.specs.Legality.{IsDummy}
use Rattle.mz_logic.proofs.check.are_dummies.Given as goal

abbrev pub invariant-loop-b : goal.invariant-loop-b
invariant-loop-b l = AllSoFar IsDummy l.dummies l.b-index
