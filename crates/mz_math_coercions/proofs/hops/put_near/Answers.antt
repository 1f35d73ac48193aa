use Rattle.std.proofs.Common.{Some}
use Rattle.mz_math_coercions.proofs.Cells.{set-here}
use Rattle.mz_math_coercions.proofs.hops.put_near.Goals as goal

pub returns : goal.returns
returns c = set-here c.args.cells.now.items c.reach.new.cells.items c.args.i (Some c.args.place) c.in_ok-reach.ensures.there c.reach.ensures.same
