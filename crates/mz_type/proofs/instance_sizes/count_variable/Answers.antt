use Rattle.mz_type.proofs.Shaping.{one_more_is, no_more}
use Rattle.mz_type.proofs.instance_sizes.count_variable.Goals as goal

pub returns-then-place-uses : goal.returns-then-place-uses
returns-then-place-uses c = one_more_is c.args.uses.now c.args.place c.if-place-uses.true

pub returns-else-place-uses : goal.returns-else-place-uses
returns-else-place-uses c = no_more c.args.uses.now c.args.place c.if-place-uses.false
