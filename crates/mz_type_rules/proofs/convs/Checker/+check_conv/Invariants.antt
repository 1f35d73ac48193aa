use Rattle.std.proofs.Common.{◌≤◌, ◌+◌, ◌*◌, drop, length}
use Rattle.mz_base.proofs.Offered.{Decides}
use Rattle.mz_logic_theory.specs.Declaration.{signatures}
use Rattle.mz_mmu_theory.specs.ConvCode.{conv_steps, convs_steps}
use Rattle.mz_mmu_theory.specs.ConvView.{conversion, conversions}
use Rattle.mz_mmu_theory.specs.Names.{ConvsThere}
use Rattle.mz_mmu_theory.specs.Rules.{convs_rules}
use Rattle.mz_type_rules.proofs.convs.Checker.+check_conv.Given as goal

abbrev pub decreases-check_conv : goal.decreases-check_conv
decreases-check_conv l = 3 * conv_steps (conversion l.conv.now)

abbrev pub decreases-check_sym : goal.decreases-check_sym
decreases-check_sym l = 3 * conv_steps (conversion l.conv.now) + 1

abbrev pub decreases-check_convs : goal.decreases-check_convs
decreases-check_convs l = 3 * convs_steps l.convs.now + 1

abbrev pub decreases-check_cong : goal.decreases-check_cong
decreases-check_cong l = 3 * convs_steps l.convs.now + 2

abbrev pub decreases-check_unfold : goal.decreases-check_unfold
decreases-check_unfold l = 3 * conv_steps (conversion l.conv.now) + 1

abbrev pub invariant-check_convs-loop-conv : goal.invariant-check_convs-loop-conv
invariant-check_convs-loop-conv l = record {
  decides : Decides (convs_rules l.self.env.now l.self.ctx.now (conversions (drop l.conv-index l.conv-items)) l.left) (convs_rules l.self.env.now l.self.ctx.now l.convs l.nodes);
  there : ConvsThere (length (signatures l.self.env.now)) (length l.self.ctx.now) (conversions (drop l.conv-index l.conv-items));
  small : convs_steps (conversions (drop l.conv-index l.conv-items)) ≤ convs_steps l.convs;
}
