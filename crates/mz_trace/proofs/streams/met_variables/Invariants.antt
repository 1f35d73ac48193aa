use Rattle.std.proofs.Common.{◌≤◌, ◌+◌, ◌-◌, length}
use Rattle.mz_trace.proofs.StreamsMet.{MetSoFar}
use Rattle.mz_trace.proofs.streams.met_variables.Given as goal

abbrev pub invariant-commands : goal.invariant-commands
invariant-commands g l = record {
  in_range : l.at ≤ length l.stream;
  ticked : l.steps ≤ l.fn.steps + l.at;
  met : MetSoFar l.nodes l.stream l.target l.at l.targets.items l.met.items;
}

abbrev pub decreases-commands : goal.decreases-commands
decreases-commands g l = length l.stream - l.at
