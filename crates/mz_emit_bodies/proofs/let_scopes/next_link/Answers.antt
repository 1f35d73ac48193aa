use Rattle.std.proofs.Common.{◌<◌, length, subst, arith}
use Rattle.mz_emit_bodies.specs.Sight.{links, IsThere}
use Rattle.mz_emit_bodies.proofs.Scoping.{links_long}
use Rattle.mz_emit_bodies.proofs.Ways.{depth_low}
use Rattle.mz_emit_bodies.proofs.let_scopes.next_link.Goals as goal

pub overflow_add-result : goal.overflow_add-result
overflow_add-result c =
    let there : c.in-Some.cell < length c.args.cells.now = subst (IsThere (length c.args.cells.now)) c.in-Some.is c.requires.there in
    let many = links_long c.args.cells.now in
    let low = depth_low (links c.args.cells.now) c.in-Some.cell c.requires.right (omega (arith, there, many)) in
    omega (arith, there, low, c.depth_at-depth.ensures, c.requires.few)
