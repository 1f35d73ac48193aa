use Rattle.mz_trace.proofs.BodiesMake.{bodies-make, made-once}
use Rattle.mz_trace.proofs.laws.bodies_make_proofs.Goals as goal

pub returns : goal.returns
returns c = record { some = bodies-make; one = made-once }
