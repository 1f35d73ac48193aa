use Rattle.std.proofs.Common.{arith, sym}
use Rattle.mz_match_rows.proofs.Steps.{command-takes}
use Rattle.mz_match_rows.proofs.stream.step_at.Goals as goal

pub overflow_add-result : goal.overflow_add-result
overflow_add-result c =
    let t = command-takes c.args.file.now c.args.at c.in-Ok.cmd (sym c.in-Ok.ensures.computed) in
    omega (arith, t.0, t.1, c.from.ensures, c.requires.fits)
