use Rattle.std.proofs.Common.{ℕ, List, Contains, drop}
use Rattle.mz_logic_theory.specs.Signature.{Signature}
use Rattle.mz_logic_theory.specs.Sorts.{Fits}
use Rattle.mz_logic_theory.specs.Variables.{IsBoundAt}
use Rattle.mz_logic_theory.specs.declared.binder.Binder.{Binder}
use Rattle.mz_store.specs.Bits.{bound_vars}
use Rattle.mz_store.specs.Sharing.{IsOver, trees_of}
use Rattle.mz_store.specs.Kept.{shared_by}
use Rattle.mz_store.proofs.BoundOperands.{At}
use Rattle.mz_store.proofs.Gathering.{Gathers}
use Rattle.mz_store.proofs.deps.named.Given as goal

abbrev pub invariant-loop-place : goal.invariant-loop-place
invariant-loop-place l = (sigs : List Signature) (params : List Binder) → IsOver sigs (shared_by l.store) → Fits sigs (shared_by l.store).context (trees_of (shared_by l.store) l.args) params
    → ((j : ℕ) → Contains l.places j → IsBoundAt params j)
    → Gathers (bound_vars (shared_by l.store).context) l.word (At (trees_of (shared_by l.store) l.args) params l.bits l.places) (At (trees_of (shared_by l.store) l.args) params l.left (drop l.place-index l.places))
