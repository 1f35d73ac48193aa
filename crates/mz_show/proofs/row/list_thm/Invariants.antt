use Rattle.std.proofs.Common.{◌≡◌, ◌++◌, take}
use Rattle.mz_layout_tables.specs.Tables.{thm_row}
use Rattle.mz_show.specs.Tokens.{texts, param_line}
use Rattle.mz_show.proofs.row.list_thm.Given as goal

abbrev pub invariant-loop-i : goal.invariant-loop-i
invariant-loop-i l = l.text.items ≡ l.fn.text.items ++ texts param_line (take l.i (thm_row l.mmb l.thm).params)
