use Rattle.std.proofs.Common.{◌≡◌, ℕ, ◌+◌, ◌-◌, ◌++◌, ◌≤◌, List, length}
use Rattle.mz_logic_theory.specs.Tree.{Tree}
use Rattle.mz_logic_theory.specs.Signature.{Signature}
use Rattle.mz_store.specs.Sharing.{AreIn, IsOver}
use Rattle.mz_machine_theory.specs.Profile.{strict}
use Rattle.mz_unify.specs.Stored.{mode_of, trees_at, AreItemsIn, AreLeft}
use Rattle.mz_unify.specs.Rows.{TellsFor, all_targets, state_at}
use Rattle.mz_unify.proofs.Underway.{IsUnderway}
use Rattle.mz_unify.proofs.running.run.Given as goal

abbrev pub invariant-commands : goal.invariant-commands
invariant-commands g l = record {
  in_range : l.at ≤ length l.stream;
  heap : AreIn l.store (l.operands ++ l.saved.items);
  targets : AreIn l.store (all_targets l.front l.targets.items);
  hyps : AreItemsIn l.store l.hyps.items;
  ticked : l.steps ≤ l.fn.steps + l.at;
  held : l.held ≡ length l.fn.hyps.items;
  left : (taken : ℕ) × (taken ≤ l.at) × AreLeft l.fn.hyps.items l.hyps.items taken;
  underway : (sigs : List Signature) → IsOver sigs l.store
      → IsUnderway strict sigs l.store.context (mode_of l.mode) (List Tree) l.stream (state_at l.store (l.operands ++ l.fn.saved.items) (trees_at l.store l.operands) (all_targets l.fn.front l.fn.targets.items) l.fn.hyps.items) l.fn.steps l.at
      (λ es. TellsFor (mode_of l.mode) l.store.context l.apart es) (λ es. state_at l.store (l.operands ++ l.saved.items) es (all_targets l.front l.targets.items) l.hyps.items) l.steps;
}

abbrev pub decreases-commands : goal.decreases-commands
decreases-commands g l = length l.stream - l.at
