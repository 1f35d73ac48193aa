use Rattle.std.proofs.Common.{◌≡◌, ◌≤◌, ◌-◌, ℕ, length, Some}
use Rattle.mz_match_rows.specs.declared.stream.Cursor.{Cursor}
use Rattle.mz_match_rows.specs.Streams.{mark_from}
use Rattle.mz_match_rows.proofs.stream.find_mark.Given as goal

abbrev pub invariant-commands : goal.invariant-commands
invariant-commands l = record {
  within : l.at ≤ length l.file;
  few : l.dummies ≤ l.at;
  goes_on : (n : ℕ) (place : Cursor) → mark_from l.file n l.start 0 l.mark ≡ Some place → (m : ℕ) × (mark_from l.file m l.at l.dummies l.left ≡ Some place);
}

abbrev pub decreases-commands : goal.decreases-commands
decreases-commands l = length l.file - l.at
