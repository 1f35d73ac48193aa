use Rattle.std.proofs.Common.{arith}
use Rattle.mz_tool.proofs.Lengths.{text-fits}
use Rattle.mz_tool.proofs.text.sample_text.Goals as goal

pub returns-clause-short : goal.returns-clause-short
returns-clause-short c small =
    text-fits c.loop-k.k c.loop-k.text.items (omega (arith, c.loop-k.auto.k-end, small)) c.loop-k.invariant
