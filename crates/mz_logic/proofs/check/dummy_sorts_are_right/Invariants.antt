use Rattle.mz_base.proofs.Offered.{AllSoFar}
use Rattle.mz_logic_theory.specs.Declaration.{sorts}
use Rattle.mz_logic_theory.specs.Modifiers.{MayBeDummySort}
use Rattle.mz_logic.proofs.check.dummy_sorts_are_right.Given as goal

abbrev pub invariant-loop-b : goal.invariant-loop-b
invariant-loop-b l = AllSoFar (λ b. MayBeDummySort (sorts l.env) b.sort) l.dummies l.b-index
