use Rattle.std.proofs.Common.{ℕ, List, Contains, drop}
use Rattle.mz_logic_theory.specs.Signature.{Signature}
use Rattle.mz_logic_theory.specs.Sorts.{Fits}
use Rattle.mz_logic_theory.specs.Variables.{IsBoundAt}
use Rattle.mz_logic_theory.specs.declared.binder.Binder.{Binder}
use Rattle.mz_store.specs.Bits.{bound_vars}
use Rattle.mz_pmachine_unify.specs.Numbering.{IsOver, trees_of}
use Rattle.mz_store.proofs.Offered.{At, Gathers}
use Rattle.mz_pmachine_unify.proofs.variables.named.Given as goal

abbrev pub invariant-loop-place : goal.invariant-loop-place
invariant-loop-place l = (sigs : List Signature) (params : List Binder) → IsOver sigs l.nodes → Fits sigs l.nodes.context (trees_of l.nodes l.args) params
    → ((j : ℕ) → Contains l.places j → IsBoundAt params j)
    → Gathers (bound_vars l.nodes.context) l.word (At (trees_of l.nodes l.args) params l.bits l.places) (At (trees_of l.nodes l.args) params l.left (drop l.place-index l.places))
