use Rattle.std.proofs.Common.{◌≡◌, ◌++◌, drop}
use Rattle.mz_logic_theory.specs.Words.{binders_of, bound_places}
use Rattle.mz_layout_tables.specs.Rows.{params_of}
use Rattle.mz_match_theory.proofs.Offered.{ParamsLeft}
use Rattle.mz_match_rows.proofs.signature.has_params.Given as goal

abbrev pub invariant-loop-i : goal.invariant-loop-i
invariant-loop-i l = record {
  left : ParamsLeft l.params (params_of l.mmb l.row) (l.params ≡ binders_of (params_of l.mmb l.row)) l.i l.places.items;
  places : l.places.items ++ bound_places l.i (drop l.i (params_of l.mmb l.row)) ≡ bound_places 0 (params_of l.mmb l.row);
}
