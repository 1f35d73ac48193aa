use Rattle.std.proofs.Common.{◌≤◌, ◌+◌, ◌-◌, length}
use Rattle.mz_trace.proofs.StreamsHyps.{TakenSoFar}
use Rattle.mz_trace.proofs.streams.hypotheses.Given as goal

abbrev pub invariant-commands : goal.invariant-commands
invariant-commands g l = record {
  in_range : l.at ≤ length l.stream;
  few : l.count ≤ l.at;
  ticked : l.steps ≤ l.fn.steps + l.at;
  taken : TakenSoFar l.stream l.at l.count;
}

abbrev pub decreases-commands : goal.decreases-commands
decreases-commands g l = length l.stream - l.at
