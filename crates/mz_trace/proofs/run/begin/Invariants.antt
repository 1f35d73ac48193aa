use Rattle.std.proofs.Common.{◌≡◌}
use Rattle.mz_trace.specs.Commands.{stage_of, begun}
use Rattle.mz_trace.proofs.run.begin.Given as goal

abbrev pub invariant-params : goal.invariant-params
invariant-params l = stage_of l.making ≡ begun l.i
