use Rattle.mz_base.proofs.Offered.{AllSoFar}
use Rattle.mz_logic_theory.specs.Declaration.{sorts}
use Rattle.mz_logic_theory.specs.Legality.{IsBinderThere}
use Rattle.mz_logic.proofs.check.binders_are_there.Given as goal

abbrev pub invariant-loop-b : goal.invariant-loop-b
invariant-loop-b l = AllSoFar (IsBinderThere (sorts l.env) l.end) l.binders l.b-index
