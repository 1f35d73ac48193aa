-- What the code's conversions stand for.
use Rattle.std.specs.Prelude.{List, [], ◌∷◌}
use Rattle.mz_logic_theory.specs.View.{tree}
use Rattle.mz_logic_theory.specs.Conversions.{Conversion, Conversions, refl_conv, sym_conv, cong_conv, unfold_conv, gap_conv, no_convs, more_convs}
use Rattle.mz_mmu_theory.specs.declared.conv.Conv.{Conv}
use Rattle.mz_mmu_theory.specs.declared.conv.Conv.TheVariants.{Refl, Sym, Cong, Unfold, Gap}

abbrev pub conversion : Conv → Conversion
conversion (Refl e) = refl_conv (tree e)
conversion (Sym c) = sym_conv c
conversion (Cong t cs) = cong_conv t cs
conversion (Unfold t es ys c) = unfold_conv t es ys c
conversion (Gap l r) = gap_conv (tree l) (tree r)

abbrev pub conversions : List Conv → Conversions
conversions [] = no_convs
conversions (c ∷ cs) = more_convs (conversion c) (conversions cs)
