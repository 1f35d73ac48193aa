use Rattle.std.proofs.Common.{arith}
use Rattle.mz_prefix.proofs.Gathering.{told-of, run-on}
use Rattle.mz_prefix.proofs.gather.longest_run.Goals as goal

pub loop-i-preserved : goal.loop-i-preserved
loop-i-preserved c =
    let ss = c.args.text.now.statements in
    run-on ss c.loop-i.i c.loop-i.run c.leading_underscores.result c.max-run.result c.name.result.now (omega (arith, c.loop-i-test.true, c.len-i-end.ensures.many))
    (told-of (λ s. s.name) ss c.loop-i.i c.name.result.now c.name.ensures) c.leading_underscores.ensures (omega (arith, c.max-run.ensures)) c.loop-i.invariant
