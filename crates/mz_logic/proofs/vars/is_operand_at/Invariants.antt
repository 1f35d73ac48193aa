use Rattle.std.proofs.Common.{ℕ, ◌<◌, ◌≡◌, get_or}
use Rattle.mz_logic_theory.specs.Tree.{operand, var}
use Rattle.mz_logic_theory.specs.Variables.{IsBoundAt}
use Rattle.mz_logic.proofs.vars.is_operand_at.Given as goal

abbrev pub invariant-loop-place : goal.invariant-loop-place
invariant-loop-place l = (k d : ℕ) → k < l.place-index → IsBoundAt l.params (get_or l.place-items k d) → operand l.es (get_or l.place-items k d) ≡ var l.x → ⊥
