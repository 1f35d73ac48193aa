use Rattle.std.proofs.Common.{◌≤◌, drop, length}
use Rattle.mz_base.proofs.Offered.{Decides}
use Rattle.mz_logic_theory.specs.Declaration.{signatures}
use Rattle.mz_mmu_theory.specs.ConvView.{conversions}
use Rattle.mz_mmu_theory.specs.Rules.{side_rules}
use Rattle.mz_type_rules.proofs.convs.check_sides.Given as goal

abbrev pub invariant-loop-i : goal.invariant-loop-i
invariant-loop-i l = record {
  decides : Decides (side_rules (signatures l.env) l.ctx (conversions (drop l.i l.items)) l.left (drop l.i l.params)) (side_rules (signatures l.env) l.ctx l.convs l.nodes l.params);
  within : l.i ≤ length l.params;
}
