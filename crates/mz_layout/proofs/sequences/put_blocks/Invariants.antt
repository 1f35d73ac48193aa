use Rattle.std.proofs.Common.{◌≡◌, ◌++◌, drop}
use Rattle.mz_layout_tables.specs.Normal.{blocks}
use Rattle.mz_layout.proofs.sequences.put_blocks.Given as goal

abbrev pub invariant-loop-row : goal.invariant-loop-row
invariant-loop-row l = l.out.items ++ blocks (drop l.row-index l.rows) ≡ l.fn.out.items ++ blocks l.rows
