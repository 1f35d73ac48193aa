use Rattle.std.proofs.Common.{List}
use Rattle.mz_logic_theory.specs.Signature.{Signature}
use Rattle.mz_logic_theory.specs.Variables.{InSomeV}
use Rattle.mz_store.specs.Bits.{bound_vars}
use Rattle.mz_store.specs.Sharing.{IsOver, trees_of}
use Rattle.mz_store.specs.Kept.{shared_by}
use Rattle.mz_store.proofs.Gathering.{Gathers}
use Rattle.mz_store.proofs.Operands.{rest_of}
use Rattle.mz_store.proofs.deps.all_deps.Given as goal

abbrev pub invariant-loop-arg : goal.invariant-loop-arg
invariant-loop-arg l = (sigs : List Signature) → IsOver sigs (shared_by l.store)
    → Gathers (bound_vars (shared_by l.store).context) l.word (λ x. InSomeV (shared_by l.store).context x (trees_of (shared_by l.store) l.args)) (λ x. InSomeV (shared_by l.store).context x (rest_of l.arg-index (trees_of (shared_by l.store) l.args)))
