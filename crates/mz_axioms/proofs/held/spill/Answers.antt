use Rattle.std.proofs.Common.{◌∙◌, [], refl, sym, append-nil}
use Rattle.mz_axioms.proofs.Adding.{adds-stops, adds-written}
use Rattle.mz_axioms.proofs.held.spill.Goals as goal

pub returns-in_err-write_whole-clause-adds : goal.returns-in_err-write_whole-clause-adds
returns-in_err-write_whole-clause-adds g c =
    let w = c.in_err-write_whole.ensures in
    adds-stops c.from_residual.result c.from_residual.ensures.0 [] [] [] refl
    (adds-written c.deref.result.now c.args.held.now.items [] [] (c.deref.ensures.value ∙ sym (append-nil c.args.held.now.items)) refl w.log w.cause w.stays_clear w.only_full w.lessens)

pub returns-clause-adds : goal.returns-clause-adds
returns-clause-adds g c =
    let w = c.in_ok-write_whole.ensures in
    adds-written c.deref.result.now c.args.held.now.items c.clear.new.self.items [] (c.deref.ensures.value ∙ sym (append-nil c.args.held.now.items)) c.clear.ensures.items w.log w.cause w.stays_clear w.only_full w.lessens
