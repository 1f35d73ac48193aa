use Rattle.std.proofs.Common.{◌≡◌, ℕ, ◌+◌, ◌-◌, ◌++◌, ◌≤◌, List, length, map}
use Rattle.mz_logic_theory.specs.Signature.{Signature}
use Rattle.mz_pmachine_theory.specs.NodeIdentity.{Numbered, tree_of, portable}
use Rattle.mz_pmachine_unify.specs.Numbering.{AreIn, IsOver}
use Rattle.mz_unify.specs.Stored.{mode_of, AreLeft}
use Rattle.mz_unify.specs.Rows.{TellsAny}
use Rattle.mz_pmachine_unify.specs.Stored.{exprs_at, AreItemsIn}
use Rattle.mz_pmachine_unify.specs.Rows.{state_at}
use Rattle.mz_unify.proofs.Offered.{IsUnderway}
use Rattle.mz_pmachine_unify.proofs.running.run.Given as goal

abbrev pub invariant-commands : goal.invariant-commands
invariant-commands g l = record {
  in_range : l.at ≤ length l.stream;
  heap : AreIn l.nodes (l.operands ++ l.saved.items);
  targets : AreIn l.nodes l.targets.items;
  hyps : AreItemsIn l.nodes l.hyps.items;
  ticked : l.steps ≤ l.fn.steps + l.at;
  held : l.held ≡ length l.fn.hyps.items;
  left : (taken : ℕ) × (taken ≤ l.at) × AreLeft l.fn.hyps.items l.hyps.items taken;
  underway : (sigs : List Signature) → IsOver sigs l.nodes
      → IsUnderway portable sigs l.nodes.context (mode_of l.mode) (List Numbered) l.stream (state_at l.nodes (l.operands ++ l.fn.saved.items) (exprs_at l.nodes l.operands) l.fn.targets.items l.fn.hyps.items) l.fn.steps l.at
      (λ es. TellsAny l.nodes.context l.apart (map tree_of es)) (λ es. state_at l.nodes (l.operands ++ l.saved.items) es l.targets.items l.hyps.items) l.steps;
}

abbrev pub decreases-commands : goal.decreases-commands
decreases-commands g l = length l.stream - l.at
