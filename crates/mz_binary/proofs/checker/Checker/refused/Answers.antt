use Rattle.std.proofs.Common.{◌+◌, ap, subst}
use Rattle.mz_binary.specs.Progress.{Progress, IsReached, Place, under}
use Rattle.mz_binary.proofs.Passing.{fails-here}
use Rattle.mz_binary.proofs.Counting.{left-at-fault}
use Rattle.mz_binary.proofs.checker.Checker.refused.Goals as goal

pub returns-clause-next : goal.returns-clause-next
returns-clause-next g c = λ ss env before.
    let p : Progress = under g.B.Bodies.STANDARD c.args.self in
    fails-here p ss env before (record { statement = c.self.inside.passed + 1; at = c.args.fault.0; rule = c.args.fault.1 }) (subst (λ (q : Place). IsReached (under g.B.Bodies.STANDARD q)) c.self.view_is c.self.invariant.0)
    (ap (λ (q : Place). q.passed + 1) c.self.view_is) c.requires

pub returns-clause-left : goal.returns-clause-left
returns-clause-left g c = left-at-fault (under g.B.Bodies.STANDARD c.args.self) c.args.fault c.requires
