use Rattle.std.proofs.Common.{◌≡◌}
use Rattle.mz_tool.specs.Samples.{sample_specification}
use Rattle.mz_tool.proofs.specification.sample_specification.Given as goal

abbrev pub invariant-loop-k : goal.invariant-loop-k
invariant-loop-k l = l.text.items ≡ sample_specification l.k
