use Rattle.std.proofs.Common.{arith}
use Rattle.mz_decompile_text.proofs.Runs.{run-on}
use Rattle.mz_decompile_text.proofs.source.longest_run.Goals as goal

pub loop-k-preserved : goal.loop-k-preserved
loop-k-preserved c =
    run-on c.args.spec.now.text.now c.args.spec.now.declared c.loop-k.k c.loop-k.run c.leading_underscores.result c.max-run.result c.name.result.now
    (omega (arith, c.loop-k-test.true, c.len-k-end.ensures)) c.name.ensures c.leading_underscores.ensures (omega (arith, c.max-run.ensures)) c.loop-k.invariant
