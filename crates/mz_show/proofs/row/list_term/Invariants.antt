use Rattle.std.proofs.Common.{◌≡◌, ◌++◌, take}
use Rattle.mz_layout_tables.specs.Tables.{term_row}
use Rattle.mz_show.specs.Tokens.{texts, param_line}
use Rattle.mz_show.proofs.row.list_term.Given as goal

abbrev pub invariant-loop-i : goal.invariant-loop-i
invariant-loop-i l = l.text.items ≡ l.fn.text.items ++ texts param_line (take l.i (term_row l.mmb l.t).words.params)
