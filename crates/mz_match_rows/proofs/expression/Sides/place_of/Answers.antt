use Rattle.std.proofs.Common.{sym, subst}
use Rattle.mz_match_rows.specs.Marks.{AreKept}
use Rattle.mz_match_rows.proofs.expression.Sides.place_of.Goals as goal

pub place_of_mark-requires-clause-within : goal.place_of_mark-requires-clause-within
place_of_mark-requires-clause-within c = let (m, stream) = c.requires.stream in stream.within

pub place_of_mark-requires-clause-kept : goal.place_of_mark-requires-clause-kept
place_of_mark-requires-clause-kept c =
    let (m, stream) = c.requires.stream in
    subst (AreKept c.args.self.now.mmb.now c.args.self.now.start) (sym c.as_slice-places.ensures.value) stream.kept
