use Rattle.std.proofs.Common.{[], refl}
use Rattle.mz_axioms.proofs.Adding.{adds-none}
use Rattle.mz_axioms.proofs.held.spill_many.Goals as goal

pub returns-then-len-lt-MANY : goal.returns-then-len-lt-MANY
returns-then-len-lt-MANY g c = adds-none tt (g.O.Sink.is_clear c.args.out.now) (g.O.Sink.room c.args.out.now) (g.O.Sink.faults c.args.out.now) (g.O.Sink.calls c.args.out.now) c.args.held.now.items [] refl
