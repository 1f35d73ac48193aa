use Rattle.std.proofs.Common.{◌≡◌, ◌<◌, ℕ, List, length}
use Rattle.mz_logic_theory.specs.Tree.{var}
use Rattle.mz_logic_theory.specs.Variables.{InV}
use Rattle.mz_logic_theory.specs.declared.binder.Binder.{Binder}
use Rattle.mz_store.specs.Bits.{Tells, bound_vars}
use Rattle.mz_emit.specs.Going.{IsStatement}
use Rattle.mz_emit.proofs.stream.param_bits.Given as goal

abbrev pub invariant-loop-i : goal.invariant-loop-i
invariant-loop-i l = (ps ds : List Binder) → IsStatement ps ds l.store → length ps ≡ l.params
    → Tells (bound_vars l.store.context) l.met (λ y. (z : ℕ) × (z < l.i) × InV l.store.context y (var z))
