use Rattle.std.proofs.Common.{◌≡◌}
use Rattle.mz_math_coercions.proofs.Leading.{AllBefore}
use Rattle.mz_math_coercions.proofs.reached.place_in.Given as goal

abbrev pub invariant-steps : goal.invariant-steps
invariant-steps l = AllBefore (λ t p. t ≡ l.sort → ⊥) l.steps l.i
