use Rattle.std.proofs.Common.{◌≡◌, ◌≤◌, ◌+◌, ◌++◌, List, length, take, drop}
use Rattle.mz_logic_theory.specs.Signature.{Signature}
use Rattle.mz_store.specs.Bits.{bound_vars}
use Rattle.mz_emit_bodies.specs.Variables.{IsShared}
use Rattle.mz_emit_bodies.proofs.shared.add_dummies.Given as goal

abbrev pub invariant-loop-dummy : goal.invariant-loop-dummy
invariant-loop-dummy l = ((sigs : List Signature) → IsShared sigs l.store l.variables.items)
    × (length l.store.entries ≡ length l.variables.items)
    × (l.store.context ≡ l.initial.store.context ++ take l.dummy-index l.dummies)
    × (length (bound_vars l.store.context) + length (drop l.dummy-index l.dummies) ≤ 55)
