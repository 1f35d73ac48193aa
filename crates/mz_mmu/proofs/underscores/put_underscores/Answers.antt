use Rattle.mz_mmu.proofs.UnderscoreRuns.{underscore-on}
use Rattle.mz_mmu.proofs.underscores.put_underscores.Goals as goal

pub loop-i-preserved : goal.loop-i-preserved
loop-i-preserved c = underscore-on c.args.out.now.items _ _ c.loop-i.i c.loop-i.invariant c.in_ok-push.ensures.items
