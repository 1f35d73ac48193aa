use Rattle.std.proofs.Common.{◌≡◌, ◌↔◌, ◌≤◌, ◌+◌, ◌*◌, drop, length}
use Rattle.mz_logic_theory.specs.Tree.{listed, past}
use Rattle.mz_mmu_theory.specs.ConvCode.{conv_steps, convs_steps}
use Rattle.mz_mmu_theory.specs.ConvView.{conversion, conversions}
use Rattle.mz_type_rules.specs.Claims.{all_put_in}
use Rattle.mz_mmu_theory.specs.Sides.{sides}
use Rattle.mz_type_rules.proofs.claim.+is_side.Given as goal

abbrev pub decreases-are_sides : goal.decreases-are_sides
decreases-are_sides l = 4 * convs_steps (conversions l.convs.now) + 3

abbrev pub decreases-is_side_with : goal.decreases-is_side_with
decreases-is_side_with l = 4 * conv_steps (conversion l.conv.now) + 2

abbrev pub decreases-is_side_read : goal.decreases-is_side_read
decreases-is_side_read l = 4 * conv_steps (conversion l.conv.now) + 1

abbrev pub decreases-is_side : goal.decreases-is_side
decreases-is_side l = 4 * conv_steps (conversion l.conv.now)

abbrev pub invariant-are_sides-loop-i : goal.invariant-are_sides-loop-i
invariant-are_sides-loop-i l = record {
  so_far : (sides l.right (conversions (drop l.i l.convs)) ≡ all_put_in l.put (past l.i l.es)) ↔ (sides l.right (conversions l.convs) ≡ all_put_in l.put l.es);
  many : length l.convs ≡ length (listed l.es);
  small : convs_steps (conversions (drop l.i l.convs)) ≤ convs_steps (conversions l.convs);
}
