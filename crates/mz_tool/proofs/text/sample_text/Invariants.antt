use Rattle.std.proofs.Common.{◌≡◌}
use Rattle.mz_tool.specs.Samples.{sample_text}
use Rattle.mz_tool.proofs.text.sample_text.Given as goal

abbrev pub invariant-loop-k : goal.invariant-loop-k
invariant-loop-k l = l.text.items ≡ sample_text l.k
