use Rattle.std.proofs.Common.{◌∙◌, ◌≡◌, ◌++◌, ◌⊎◌, ◌↔◌, ℕ, List, Contains, subst, inr, refl}
use Rattle.mz_logic_theory.specs.Variables.{IsOperandAt}
use Rattle.mz_logic_free.proofs.free.bind.Goals as goal

pub returns : goal.returns
returns c = inr (
  (c.in_ok-add_bound_operands.ensures.grows.0, c.in_ok-add_bound_operands.ensures.grows.1 ∙ subst (λ xs. c.truncate.new.self.variables ++ c.in_ok-add_bound_operands.ensures.grows.0 ≡ xs ++ c.in_ok-add_bound_operands.ensures.grows.0) c.truncate.ensures.variables refl),
  subst (λ (xs : List ℕ). (x : ℕ) → Contains c.add_bound_operands.new.variables x ↔ (Contains xs x ⊎ IsOperandAt c.args.params.now c.args.es.now c.args.places.now x)) c.truncate.ensures.variables c.in_ok-add_bound_operands.ensures.has,
  c.truncate.ensures.known,
)
