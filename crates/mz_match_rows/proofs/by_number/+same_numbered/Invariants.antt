use Rattle.std.proofs.Common.{◌≡◌, ◌≤◌, ◌+◌, ◌*◌, ℕ, length}
use Rattle.std.specs.Prelude.{◌↔◌}
use Rattle.mz_logic_theory.specs.Tree.{Trees, listed}
use Rattle.mz_machine_theory.specs.Spells.{Marks}
use Rattle.mz_match_rows.specs.Beside.{IsPlainStream}
use Rattle.mz_match_rows.specs.Numbers.{AreNumbered, AreSaidTrees}
use Rattle.mz_match_rows.specs.Streams.{AreSaid}
use Rattle.mz_match_rows.proofs.by_number.+same_numbered.Given as goal

abbrev pub decreases-same_numbered : goal.decreases-same_numbered
decreases-same_numbered l = 3 * l.number + 2

abbrev pub decreases-numbered_mark : goal.decreases-numbered_mark
decreases-numbered_mark l = 3 * l.number + 1

abbrev pub decreases-numbered_made : goal.decreases-numbered_made
decreases-numbered_made l = 3 * l.number

abbrev pub decreases-all_numbered : goal.decreases-all_numbered
decreases-all_numbered l = 3 * l.list + 2

abbrev pub invariant-all_numbered-trees : goal.invariant-all_numbered-trees
invariant-all_numbered-trees l = record {
  said : AreSaidTrees l.sides l.pieces l.said;
  small : l.rest ≤ l.fn.list;
  goes_on : (gs : Trees) (m : Marks) (fs : Trees) (d to d' : ℕ) → AreNumbered l.pieces gs l.fn.list → IsPlainStream l.sides m
      → AreSaid l.sides.mmb.now l.sides.params m l.fn.at d fs to d' → l.fn.many ≡ length (listed fs)
      → (others : Trees) × (later : Trees) × (d1 : ℕ) × AreNumbered l.pieces others l.rest × AreSaid l.sides.mmb.now l.sides.params m l.place d1 later to d'
      × (l.left ≡ length (listed later)) × ((gs ≡ fs) ↔ (others ≡ later));
}

abbrev pub decreases-all_numbered-trees : goal.decreases-all_numbered-trees
decreases-all_numbered-trees l = l.left
