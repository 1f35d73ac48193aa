use Rattle.std.proofs.Common.{sym, subst}
use Rattle.std.specs.Prelude.{slice_get}
use Rattle.mz_trace.specs.Nodes.{IsApplication}
use Rattle.mz_trace.proofs.state.Making.operands_of.Goals as goal

pub application-term-requires : goal.application-term-requires
application-term-requires c = subst (λ ns. IsApplication (slice_get ns c.args.left)) (sym c.deref.ensures.value) c.requires.0
