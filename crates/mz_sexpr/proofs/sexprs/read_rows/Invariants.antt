use Rattle.std.proofs.Common.{◌≡◌, ◌≤◌, ◌+◌, drop, map, ◌++◌}
use Rattle.mz_sexpr.specs.declared.scan.Class.TheVariants.{Space}
use Rattle.mz_sexpr.specs.Scan.{byte_checks, text_checks, tokens}
use Rattle.mz_sexpr.specs.Rows.{entry, entries}
use Rattle.mz_sexpr.proofs.Deciding.{Decides}
use Rattle.mz_sexpr.proofs.sexprs.read_rows.Given as goal

abbrev pub invariant-loop-i : goal.invariant-loop-i
invariant-loop-i l = record {
  decides : Decides (byte_checks l.i l.seen (drop l.i l.text)) (text_checks l.text);
  rows_left : map (entry l.text) l.rows.items ++ entries l.seen.depth (tokens l.i l.seen.last (drop l.i l.text)) ≡ entries 0 (tokens 0 Space l.text);
  depth : l.seen.depth ≤ 4096;
  tops : l.seen.tops + l.seen.depth ≤ l.i;
}
