use Rattle.std.proofs.Common.{◌≡◌, ◌≤◌, ◌+◌, ◌*◌, drop}
use Rattle.mz_mmu_theory.specs.ConvCode.{conv_steps, convs_steps}
use Rattle.mz_mmu_theory.specs.ConvView.{conversion, conversions}
use Rattle.mz_mmu_theory.specs.Weight as weight
use Rattle.mz_type.proofs.weights.+conv_weight.Given as goal

abbrev pub decreases-conv_weight : goal.decreases-conv_weight
decreases-conv_weight l = 2 * conv_steps (conversion l.conv.now)

abbrev pub decreases-convs_weight : goal.decreases-convs_weight
decreases-convs_weight l = 2 * convs_steps l.convs.now + 1

abbrev pub invariant-convs_weight-loop-conv : goal.invariant-convs_weight-loop-conv
invariant-convs_weight-loop-conv l = record {
  counts : l.total + weight.convs_weight l.env (conversions (drop l.conv-index l.conv-items)) ≡ weight.convs_weight l.env l.convs;
  small : convs_steps (conversions (drop l.conv-index l.conv-items)) ≤ convs_steps l.convs;
}
