use Rattle.std.proofs.Common.{◌≡◌, ◌++◌, drop}
use Rattle.mz_logic_theory.specs.Words.{binders_of, bound_places}
use Rattle.mz_layout_tables.specs.Rows.{params_of}
use Rattle.mz_decompile_text.specs.Phrasing.{binders}
use Rattle.mz_decompile_text.specs.Naming.{vocabulary_by}
use Rattle.mz_decompile.specs.Adding.{AreAdded}
use Rattle.mz_decompile.proofs.Lists.{params-from}
use Rattle.mz_decompile.proofs.params.put_params.Given as goal

abbrev pub invariant-params : goal.invariant-params
invariant-params l = record {
  added : AreAdded l.initial.phrases l.phrases l.inner.items (binders (vocabulary_by l.names) 0 (binders_of (params_of l.mmb l.row)))
      (params-from (vocabulary_by l.names) l.i l.places.items (params_of l.mmb l.row));
  places : l.places.items ++ bound_places l.i (drop l.i (params_of l.mmb l.row)) ≡ bound_places 0 (params_of l.mmb l.row);
}
