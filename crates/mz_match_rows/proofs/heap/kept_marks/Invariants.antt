use Rattle.std.proofs.Common.{◌≤◌, ◌-◌, length}
use Rattle.mz_match_rows.specs.Marks.{AreKept}
use Rattle.mz_match_rows.proofs.KeptMarks.{Follow}
use Rattle.mz_match_rows.proofs.heap.kept_marks.Given as goal

abbrev pub invariant-commands : goal.invariant-commands
invariant-commands l = record {
  within : l.at ≤ length l.file;
  few : l.dummies ≤ l.at;
  marks : AreKept l.file l.start l.places.items × Follow l.file l.start l.at l.dummies l.places.items;
}

abbrev pub decreases-commands : goal.decreases-commands
decreases-commands l = length l.file - l.at
