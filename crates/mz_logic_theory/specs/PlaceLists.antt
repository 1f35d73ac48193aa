-- The places on which something depends, by how they are kept.
use Rattle.std.specs.Prelude.{ℕ, List, [], ⊤}
use Rattle.std.specs.List.Sorted.{IsNonDecreasing}
use Rattle.std.specs.Rc.{rc_slice_items}
use Rattle.mz_logic_theory.specs.declared.binder.PlaceList.{PlaceList}
use Rattle.mz_logic_theory.specs.declared.binder.PlaceList.TheVariants.{Empty, Ascending, Unordered}

abbrev pub places_kept : PlaceList → List ℕ
places_kept Empty = []
places_kept (Ascending places) = rc_slice_items places
places_kept (Unordered places) = rc_slice_items places

abbrev pub AscendAsSaid : PlaceList → Type 0
AscendAsSaid Empty = ⊤
AscendAsSaid (Ascending places) = IsNonDecreasing (rc_slice_items places)
AscendAsSaid (Unordered places) = ⊤
