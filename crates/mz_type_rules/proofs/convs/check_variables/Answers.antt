use Rattle.std.proofs.Common.{drop}
use Rattle.mz_type_rules.proofs.Steps.{no_dummies_left}
use Rattle.mz_type_rules.proofs.convs.check_variables.Goals as goal

pub returns-then-i-dummies : goal.returns-then-i-dummies
returns-then-i-dummies c =
    c.loop-i.invariant.decides.holds (no_dummies_left c.args.ctx.now (drop c.loop-i.i c.as_slice-places.result.now) c.loop-i.left c.args.dummies.now c.loop-i.i c.if-i-dummies.true)
