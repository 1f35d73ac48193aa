use Rattle.std.proofs.Common.{ap, ◌∙◌, arith, Some}
use Rattle.mz_emit_bodies.specs.TaskInvariant.{to_do, left}
use Rattle.mz_emit_bodies.proofs.Scoping.{parts_long}
use Rattle.mz_emit_bodies.proofs.Keeping.{saved}
use Rattle.mz_emit_bodies.proofs.Counting.{save_room}
use Rattle.mz_emit_bodies.proofs.body.Body.save.Goals as goal

pub returns-clause-does : goal.returns-clause-does
returns-clause-does c = λ o d. saved _ o _ _ _ _ _ _ c.args.cell _ _ _ _ _ _ c.set_place.ensures.parts c.set_place.ensures.links c.set_place.ensures.there
    (c.set_place.ensures.at ∙ ap (λ p. Some p) c.push-place.ensures.at) c.set_place.ensures.others c.push-place.ensures.places c.push-place.ensures.more c.in_ok-put.ensures.bytes d

pub set_place-requires : goal.set_place-requires
set_place-requires c = omega (arith, c.requires.can.1.can.0, parts_long c.args.self.now.cells.cells.items)

pub returns-clause-less : goal.returns-clause-less
returns-clause-less c =
    let same = ap (λ ps. left c.args.self.now.before.env.now c.args.self.now.shared.store ps (to_do c.args.self.now.tasks.items)) c.set_place.ensures.parts in
    omega (arith, same)

pub push-place-requires : goal.push-place-requires
push-place-requires c = record { room = save_room c.args.self.now.before.env.now c.args.self.now.shared.store _ _ _ _ c.requires.can.1.commands c.requires.can.0.whole (to_do c.args.self.now.tasks.items) c.args.cell c.requires.can.1.writing }
