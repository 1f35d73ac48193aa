use Rattle.std.proofs.Common.{[], refl}
use Rattle.mz_axioms.proofs.Adding.{adds-both, adds-stops, adds-through}
use Rattle.mz_axioms.proofs.held.put_through.Goals as goal

pub returns-in_err-spill : goal.returns-in_err-spill
returns-in_err-spill g c = adds-stops c.from_residual.result c.from_residual.ensures.0 [] c.args.piece.now c.args.piece.now refl c.in_err-spill.ensures.adds

pub returns : goal.returns
returns g c =
    let w = c.write_whole.ensures in
    let held = c.spill.new.held.items in
    adds-both [] c.args.piece.now c.args.piece.now refl c.in_ok-spill.ensures.adds
    (adds-through held c.args.piece.now c.in_ok-spill.ensures.none w.log w.cause w.stays_clear w.only_full w.lessens)
