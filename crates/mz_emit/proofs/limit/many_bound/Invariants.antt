use Rattle.mz_mmu_theory.specs.Weight.{bound_limit, bound_count}
use Rattle.mz_emit.proofs.Limiting.{Left}
use Rattle.mz_emit.proofs.limit.many_bound.Given as goal

abbrev pub invariant-loop-i : goal.invariant-loop-i
invariant-loop-i l = Left bound_limit bound_count 55 l.text.statements l.i
