use Rattle.mz_mmu_theory.specs.Weight.{parameter_limit, parameter_count}
use Rattle.mz_emit.proofs.Limiting.{Left}
use Rattle.mz_emit.proofs.limit.many_parameters.Given as goal

abbrev pub invariant-loop-i : goal.invariant-loop-i
invariant-loop-i l = Left parameter_limit parameter_count 65535 l.text.statements l.i
