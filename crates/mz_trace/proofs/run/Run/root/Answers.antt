use Rattle.std.proofs.Common.{◌<◌, length, subst}
use Rattle.mz_trace.specs.Numbered.{Numbered}
use Rattle.mz_trace.proofs.Whole.{root-there}
use Rattle.mz_trace.proofs.run.Run.root.Goals as goal

pub returns-clause-there : goal.returns-clause-there
returns-clause-there c = subst (λ (p : Numbered). c.self.inside.root < length p.nodes) c.self.view_is (root-there _ c.self.invariant)
