-- Both sides of a conversion have a sort.
use Rattle.std.proofs.Common.{List}
use Rattle.mz_logic_theory.specs.Tree.{Tree}
use Rattle.mz_logic_theory.specs.Declaration.{Declaration}
use Rattle.mz_logic_theory.specs.Sorts.{IsSorted}
use Rattle.mz_logic_theory.specs.Conversions.{Conversion, refl_conv, sym_conv, cong_conv, unfold_conv, gap_conv, Between}
use Rattle.mz_logic_theory.specs.declared.binder.Binder.{Binder}

pub sorted_sides : (env : List Declaration) (ctx : List Binder) (c : Conversion) (l r : Tree) → Between env ctx c l r → IsSorted env ctx l × IsSorted env ctx r
sorted_sides env ctx (refl_conv e) l r h = (h.0, h.1)
sorted_sides env ctx (sym_conv c) l r h = (h.0, h.1)
sorted_sides env ctx (cong_conv t cs) l r h = (h.0, h.1)
sorted_sides env ctx (unfold_conv t es ys c) l r h = (h.0, h.1)
sorted_sides env ctx (gap_conv a b) l r h = (h.0, h.1)
