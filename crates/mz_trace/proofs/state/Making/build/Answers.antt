use Rattle.mz_machine_env.proofs.Offered.{row-in-file}
use Rattle.mz_trace.proofs.state.Making.build.Goals as goal

pub arity-requires : goal.arity-requires
arity-requires c = row-in-file c.args.mmb.now c.args.t c.requires.0
