use Rattle.std.proofs.Common.{◌-◌, length}
use Rattle.mz_show.proofs.Progress.{Progress}
use Rattle.mz_show.proofs.writing.list_statements.Given as goal

abbrev pub invariant-statements : goal.invariant-statements
invariant-statements g l =
    Progress l.mmb (g.O.Sink.is_clear l.fn.out) (g.O.Sink.is_clear l.out)
    (g.O.Sink.room l.fn.out) (g.O.Sink.room l.out) (g.O.Sink.faults l.fn.out) (g.O.Sink.faults l.out) (g.O.Sink.calls l.fn.out) (g.O.Sink.calls l.out) l.place

abbrev pub decreases-statements : goal.decreases-statements
decreases-statements g l = length l.mmb - l.place.at
