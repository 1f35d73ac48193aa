use Rattle.std.proofs.Common.{[], refl}
use Rattle.mz_axioms.proofs.Adding.{adds-both, adds-from, adds-held, adds-stops}
use Rattle.mz_axioms.proofs.held.put.Goals as goal

pub returns-in_err-spill_many : goal.returns-in_err-spill_many
returns-in_err-spill_many g c = adds-stops c.from_residual.result c.from_residual.ensures.0 [] c.args.piece.now c.args.piece.now refl c.in_err-spill_many.ensures

pub returns-in-Ok : goal.returns-in-Ok
returns-in-Ok g c =
    let out = c.spill_many.new.out in
    adds-both [] c.args.piece.now c.args.piece.now refl c.in_ok-spill_many.ensures
    (adds-held tt (g.O.Sink.is_clear out) (g.O.Sink.room out) (g.O.Sink.faults out) (g.O.Sink.calls out) c.spill_many.new.held.items c.extend_from_slice.new.self.items c.args.piece.now c.in-Ok.ensures.items)

pub returns-in-Err : goal.returns-in-Err
returns-in-Err g c =
    adds-both [] c.args.piece.now c.args.piece.now refl c.in_ok-spill_many.ensures
    (adds-from c.extend_from_slice.new.self.items c.spill_many.new.held.items c.put_through.new.held.items c.args.piece.now c.in-Err.ensures.items c.put_through.ensures)
