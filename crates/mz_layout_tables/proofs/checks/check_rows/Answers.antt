use Rattle.std.specs.List.{range_with_len}
use Rattle.std.proofs.lemmas.Result.{err_from_is_err_and}
use Rattle.mz_base.specs.Checks.{each_in_order}
use Rattle.mz_base.proofs.Offered.{fails-before, judges-after}
use Rattle.mz_layout_tables.specs.Tables.{term_count, thm_count}
use Rattle.mz_layout_tables.specs.Layout.{term_check, thm_check}
use Rattle.mz_layout_tables.proofs.checks.check_rows.Goals as goal

pub returns-in_err-check_term_rows : goal.returns-in_err-check_term_rows
returns-in_err-check_term_rows c =
    let file = c.args.file.now in
    let p = err_from_is_err_and c.from_residual.result c.from_residual.ensures.1 in
    rw (p.1, p.2) (fails-before (each_in_order (term_check file) (range_with_len 0 (term_count file))) (each_in_order (thm_check file) (range_with_len 0 (thm_count file))) _ c.in_err-check_term_rows.ensures)

pub returns : goal.returns
returns c =
    let file = c.args.file.now in
    judges-after (each_in_order (term_check file) (range_with_len 0 (term_count file))) (each_in_order (thm_check file) (range_with_len 0 (thm_count file))) _ c.in_ok-check_term_rows.ensures c.check_thm_rows.ensures
