use Rattle.std.proofs.Common.{length, ◌-◌, ◌≤◌, IsTrue}
use Rattle.std.specs.List.{list_all, slice_range}
use Rattle.mz_lex.specs.Scan.{is_in}
use Rattle.mz_lex.proofs.bytes.Class.run_end.Given as goal

abbrev pub invariant-loop-end : goal.invariant-loop-end
invariant-loop-end l = record {
  later : l.from ≤ l.end;
  within : l.end ≤ length l.text;
  all : IsTrue (list_all (is_in l.self) (slice_range l.text l.from l.end));
}

abbrev pub decreases-loop-end : goal.decreases-loop-end
decreases-loop-end l = length l.text - l.end
