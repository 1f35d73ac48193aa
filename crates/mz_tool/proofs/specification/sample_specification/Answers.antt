use Rattle.std.proofs.Common.{arith}
use Rattle.mz_tool.proofs.Lengths.{specification-fits}
use Rattle.mz_tool.proofs.specification.sample_specification.Goals as goal

pub returns-clause-short : goal.returns-clause-short
returns-clause-short c small =
    specification-fits c.loop-k.k c.loop-k.text.items (omega (arith, c.loop-k.auto.k-end, small)) c.loop-k.invariant
