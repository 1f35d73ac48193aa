use Rattle.mz_math_coercions.specs.Reached.{Has}
use Rattle.mz_math_coercions.proofs.Leading.{AllBefore}
use Rattle.mz_math_coercions.proofs.clash.meet.Given as goal

abbrev pub invariant-ends : goal.invariant-ends
invariant-ends l = AllBefore (λ t p. Has l.front t → ⊥) l.ends l.i
