use Rattle.std.proofs.Common.{◌≡◌, ◌≤◌, length, take}
use Rattle.mz_base.proofs.Offered.{Decides, rows_from}
use Rattle.mz_layout_tables.specs.Rows.{params_of, words_at_of}
use Rattle.mz_layout_tables.specs.RowWords.{bound_count, first_sorts, param_check, param_checks}
use Rattle.mz_layout_tables.proofs.row_words.check_params.Given as goal

abbrev pub invariant-loop-i : goal.invariant-loop-i
invariant-loop-i l =
    let ws = params_of l.mmb l.row in
    let words_at = words_at_of l.mmb l.row in
    let ss = first_sorts l.mmb l.sorts in
    record {
      decides : Decides (rows_from (param_check ss words_at ws) l.i (length ws)) (param_checks ss words_at ws);
      counts : l.bound ≡ bound_count (take l.i ws);
      few : l.bound ≤ 55;
    }
