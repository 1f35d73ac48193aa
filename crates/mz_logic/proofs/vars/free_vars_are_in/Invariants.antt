use Rattle.std.proofs.Common.{ℕ, ◌<◌, Contains}
use Rattle.mz_logic_theory.specs.Declaration.{signatures}
use Rattle.mz_logic_theory.specs.Variables.{InFV}
use Rattle.mz_logic_theory.specs.View.{tree}
use Rattle.mz_logic.proofs.vars.free_vars_are_in.Given as goal

abbrev pub invariant-loop-x : goal.invariant-loop-x
invariant-loop-x l = (k : ℕ) → k < l.x → InFV (signatures l.env) l.ctx k (tree l.expr) → Contains l.places k
