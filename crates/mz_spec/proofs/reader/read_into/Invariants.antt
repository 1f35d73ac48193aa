use Rattle.std.proofs.Common.{◌*◌, ◌+◌, ◌≤◌, ◌-◌, length}
use Rattle.mz_spec_rules.specs.Entries.{state}
use Rattle.mz_spec_theory.specs.Kept.{IsKept}
use Rattle.mz_spec.specs.Reading.{StandTo}
use Rattle.mz_spec.proofs.reader.read_into.Given as goal

abbrev pub invariant-statements : goal.invariant-statements
invariant-statements l = record {
  within : l.at ≤ length l.text;
  some : 1 ≤ l.statement;
  few : 2 * l.statement ≤ l.at + 2;
  spans : length l.state.spans.items + 1 ≤ l.statement;
  kept : IsKept (state l.state);
  stand : StandTo l.text (l.statement - 1) l.at (state l.state);
}

abbrev pub decreases-statements : goal.decreases-statements
decreases-statements l = length l.text - l.at
