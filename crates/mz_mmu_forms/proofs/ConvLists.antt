-- Conversions, one after another.
use Rattle.std.proofs.Common.{◌≡◌, List, [], ◌∷◌, ◌++◌, ap, refl}
use Rattle.mz_logic_theory.specs.Conversions.{Conversions, no_convs, more_convs}
use Rattle.mz_mmu_theory.specs.ConvView.{conversion, conversions}
use Rattle.mz_mmu_forms.specs.ConvSteps.{convs_then}
use Rattle.mz_mmu_theory.specs.declared.conv.Conv.{Conv}

pub convs_then_none : (cs : List Conv) → convs_then cs no_convs ≡ conversions cs
convs_then_none [] = refl
convs_then_none (c ∷ cs) = ap (more_convs (conversion c)) (convs_then_none cs)

pub convs_then_push : (cs : List Conv) (c : Conv) (ds : Conversions) → convs_then (cs ++ c ∷ []) ds ≡ convs_then cs (more_convs (conversion c) ds)
convs_then_push [] c ds = refl
convs_then_push (b ∷ cs) c ds = ap (more_convs (conversion b)) (convs_then_push cs c ds)
