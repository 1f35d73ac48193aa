use Rattle.std.proofs.Common.{ap, sym, Some}
use Rattle.mz_match_rows.proofs.KeptMarks.{one-place}
use Rattle.mz_match_rows.proofs.heap.place_of_mark.Goals as goal

pub returns-in-Some : goal.returns-in-Some
returns-in-Some c = λ n place found.
    let (m, kept) = c.requires.kept c.args.mark c.in-Some.place (sym c.in-Some.ensures) in
    ap Some (one-place c.args.mmb.now m n c.args.start 0 c.args.mark c.in-Some.place place kept found)
