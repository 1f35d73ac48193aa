use Rattle.std.specs.List.{range_with_len}
use Rattle.mz_base.specs.Checks.{each_in_order}
use Rattle.mz_base.proofs.Offered.{Decides, rows_from}
use Rattle.mz_layout_tables.specs.Tables.{term_count}
use Rattle.mz_layout_tables.specs.Layout.{term_check}
use Rattle.mz_layout_tables.proofs.checks.check_term_rows.Given as goal

abbrev pub invariant-loop-t : goal.invariant-loop-t
invariant-loop-t l = Decides (rows_from (term_check l.file) l.t (term_count l.file)) (each_in_order (term_check l.file) (range_with_len 0 (term_count l.file)))
