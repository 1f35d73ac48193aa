use Rattle.std.proofs.Common.{◌≡◌, ◌≤◌, ◌+◌, ◌*◌, ◌^◌, length, drop}
use Rattle.mz_layout_tables.specs.Normal.{blocks}
use Rattle.mz_layout.proofs.sequences.blocks_len.Given as goal

abbrev pub invariant-loop-row : goal.invariant-loop-row
invariant-loop-row l = (l.total + length (blocks (drop l.row-index l.rows)) ≡ length (blocks l.rows)) × (l.total ≤ (2 ^ 63 + 2 ^ 20) * l.row-index)
