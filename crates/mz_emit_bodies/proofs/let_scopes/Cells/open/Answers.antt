use Rattle.std.proofs.Common.{subst, sym, length, List, arith}
use Rattle.mz_emit_bodies.specs.Sight.{AreRight, IsNext, IsThere, links}
use Rattle.mz_emit_bodies.specs.declared.let_scopes.Cell.{Cell}
use Rattle.mz_emit_bodies.proofs.Opening.{cells_right}
use Rattle.mz_emit_bodies.proofs.let_scopes.Cells.open.Goals as goal

pub returns-clause-right : goal.returns-clause-right
returns-clause-right c = cells_right c.args.self.now.cells.items _ _ c.len-number.result c.in_ok-push.ensures.items c.requires.right (let a = c.len-number.ensures in let b = c.args.self.now.cells.ok in omega (arith, a, b)) c.requires.there
    (subst (λ (cs : List Cell). IsNext (links cs) c.len-number.result c.args.outer c.next_link-depth.result.0 c.next_link-depth.result.1) c.deref.ensures.value c.next_link-depth.ensures)

pub next_link-depth-requires-clause-right : goal.next_link-depth-requires-clause-right
next_link-depth-requires-clause-right c = subst (λ cs. AreRight (links cs)) (sym c.deref.ensures.value) c.requires.right

pub next_link-depth-requires-clause-there : goal.next_link-depth-requires-clause-there
next_link-depth-requires-clause-there c = subst (λ cs. IsThere (length cs) c.args.outer) (sym c.deref.ensures.value) c.requires.there
