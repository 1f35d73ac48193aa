use Rattle.std.proofs.Common.{length}
use Rattle.mz_trace.specs.Commands.{stage_of, PassesOn}
use Rattle.mz_trace.proofs.state.Making.pay.Given as goal

abbrev pub invariant-frames : goal.invariant-frames
invariant-frames l = PassesOn (stage_of l.initial.self) l.tree (stage_of l.self) l.paid

abbrev pub decreases-frames : goal.decreases-frames
decreases-frames l = length l.self.stack.items
