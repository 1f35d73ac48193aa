use Rattle.std.proofs.Common.{◌≡◌, ◌≤◌, ◌++◌, length, drop}
use Rattle.mz_layout_tables.specs.Normal.{list_bytes}
use Rattle.mz_layout.proofs.sequences.put_list.Given as goal

abbrev pub invariant-loop-statement : goal.invariant-loop-statement
invariant-loop-statement l =
    (l.out.items ++ list_bytes (drop l.statement-index l.statements) ≡ l.fn.out.items ++ list_bytes l.statements)
    × (length (list_bytes (drop l.statement-index l.statements)) ≤ 4294967295)
