use Rattle.std.specs.List.{range_with_len}
use Rattle.mz_base.specs.Checks.{each_in_order}
use Rattle.mz_base.proofs.Offered.{Decides, rows_from}
use Rattle.mz_layout_tables.specs.Tables.{thm_count}
use Rattle.mz_layout_tables.specs.Layout.{thm_check}
use Rattle.mz_layout_tables.proofs.checks.check_thm_rows.Given as goal

abbrev pub invariant-loop-i : goal.invariant-loop-i
invariant-loop-i l = Decides (rows_from (thm_check l.file) l.i (thm_count l.file)) (each_in_order (thm_check l.file) (range_with_len 0 (thm_count l.file)))
