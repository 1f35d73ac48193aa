use Rattle.std.proofs.Common.{◌≡◌, ◌+◌, length, drop}
use Rattle.mz_logic_theory.specs.Tree.{followed_by, variables}
use Rattle.mz_store.specs.Sharing.{AreIn, trees_of}
use Rattle.mz_emit_bodies.proofs.shared.Shared.push_variables.Given as goal

abbrev pub invariant-loop-place : goal.invariant-loop-place
invariant-loop-place l = (AreIn l.self.store l.ids.items)
    × (followed_by (trees_of l.self.store l.ids.items) (variables (drop l.place-index l.place-items)) ≡ followed_by (trees_of l.self.store l.initial.ids.items) (variables l.place-items))
    × (length l.ids.items + length (drop l.place-index l.place-items) ≡ length l.initial.ids.items + length l.place-items)
