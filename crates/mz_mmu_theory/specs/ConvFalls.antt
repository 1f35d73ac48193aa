-- A conversion has more steps than each conversion in it.
use Rattle.std.specs.Prelude.{◌≤◌, max, List, [], ◌∷◌}
use Rattle.std.proofs.Common.{arith}
use Rattle.mz_mmu_theory.specs.ConvCode.{conv_steps, convs_steps}
use Rattle.mz_mmu_theory.specs.ConvView.{conversion, conversions}
use Rattle.mz_mmu_theory.specs.declared.conv.Conv.{Conv}
use Rattle.mz_mmu_theory.specs.declared.conv.Conv.TheVariants.{Refl, Sym, Cong, Unfold, Gap}
use Rattle.mz_mmu_theory.specs.declared.conv.ConvBox.TheDeep.{deep-Conv}
use denote.Param.Weighed.{most}

pub deep_le_steps : (c : Conv) → deep-Conv c ≤ conv_steps (conversion c)
deep_le_steps (Refl e) = omega arith
deep_le_steps (Sym c) = omega arith
deep_le_steps (Cong t cs) = omega arith
deep_le_steps (Unfold t es ys c) = omega arith
deep_le_steps (Gap l r) = omega arith

pub most_le_steps : (cs : List Conv) → max (most deep-Conv cs) 0 ≤ convs_steps (conversions cs)
most_le_steps [] = omega arith
most_le_steps (c ∷ cs) = omega (arith, deep_le_steps c, most_le_steps cs)

pub box_le_steps : (c : Conv) → max (deep-Conv c) 0 ≤ conv_steps (conversion c)
box_le_steps c = omega (arith, deep_le_steps c)
