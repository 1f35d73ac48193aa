use Rattle.std.proofs.Common.{◌≡◌, ◌≤◌, ◌+◌, ◌++◌, length, drop}
use Rattle.mz_layout_tables.specs.Normal.{blocks, table}
use Rattle.mz_layout.proofs.sequences.put_table.Given as goal

abbrev pub invariant-loop-row : goal.invariant-loop-row
invariant-loop-row l =
    (l.out.items ++ table l.place (drop l.row-index l.rows) ≡ l.fn.out.items ++ table l.fn.at l.rows)
    × (l.place + length (blocks (drop l.row-index l.rows)) ≤ 4294967295)
