use Rattle.mz_math.proofs.Uncoerced.{no-height}
use Rattle.mz_math.proofs.elaborate.build.Goals as goal

pub returns-then-most-eq0-clause-built : goal.returns-then-most-eq0-clause-built
returns-then-most-eq0-clause-built c = λ e s has. no-height e c.args.most c.if-most-eq0.true
