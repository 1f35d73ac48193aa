use Rattle.std.proofs.Common.{ℕ, ◌≡◌, Contains}
use Rattle.mz_base.proofs.Offered.{AllSoFar}
use Rattle.mz_logic_theory.specs.Tree.{operand, var}
use Rattle.mz_logic_theory.specs.Variables.{IsBoundAt}
use Rattle.mz_logic_free.proofs.free.covers_bound_operands.Given as goal

abbrev pub invariant-loop-place : goal.invariant-loop-place
invariant-loop-place l = AllSoFar (λ j. (x : ℕ) → IsBoundAt l.params j → operand l.es j ≡ var x → Contains l.covered x) l.place-items l.place-index
