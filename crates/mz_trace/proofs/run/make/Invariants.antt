use Rattle.std.proofs.Common.{◌≤◌, ◌+◌, ◌*◌, ◌-◌, length}
use Rattle.mz_trace.specs.Commands.{stage_of}
use Rattle.mz_trace.proofs.Bodies.{IsUnderway}
use Rattle.mz_trace.proofs.run.make.Given as goal

abbrev pub invariant-commands : goal.invariant-commands
invariant-commands g l = record {
  in_range : l.at ≤ length l.bytes;
  underway : IsUnderway l.mmb l.bytes (stage_of l.fn.start) l.at (stage_of l.making);
  most : l.steps ≤ l.fn.steps + l.at * (length l.mmb + 1);
}

abbrev pub decreases-commands : goal.decreases-commands
decreases-commands g l = length l.bytes - l.at
