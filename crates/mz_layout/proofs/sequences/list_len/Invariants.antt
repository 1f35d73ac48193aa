use Rattle.std.proofs.Common.{◌≡◌, ◌≤◌, ◌+◌, ◌*◌, ◌^◌, length, drop}
use Rattle.mz_layout_tables.specs.Normal.{list_bytes}
use Rattle.mz_layout.proofs.sequences.list_len.Given as goal

abbrev pub invariant-loop-statement : goal.invariant-loop-statement
invariant-loop-statement l = (l.total + length (list_bytes (drop l.statement-index l.statements)) ≡ length (list_bytes l.statements) + 1) × (l.total ≤ (2 ^ 63 + 2 ^ 20) * l.statement-index + 1)
