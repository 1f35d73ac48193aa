use Rattle.std.proofs.Common.{ℕ, ◌≡◌, ◌⊎◌, ◌↔◌, ◌++◌, List, Contains, drop}
use Rattle.mz_logic_theory.specs.Tree.{operand, var}
use Rattle.mz_logic_theory.specs.Variables.{IsBoundAt, IsOperandAt}
use Rattle.mz_logic_free.proofs.Walking.{Reaches}
use Rattle.mz_logic_free.proofs.free.add_bound_operands.Given as goal

abbrev pub invariant-loop-place : goal.invariant-loop-place
invariant-loop-place l = record {
  grows : (more : List ℕ) × (l.variables ≡ l.initial.variables ++ more);
  has : (x : ℕ) → (Contains l.variables x ⊎ Reaches (λ j y. IsBoundAt l.params j × (operand l.es j ≡ var y)) (drop l.place-index l.place-items) x) ↔ (Contains l.initial.variables x ⊎ IsOperandAt l.params l.es l.places x);
}
