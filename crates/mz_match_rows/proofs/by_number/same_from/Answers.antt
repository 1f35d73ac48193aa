use Rattle.std.proofs.Common.{refl}
use Rattle.mz_match_rows.proofs.Numbering.{one-tree, told}
use Rattle.mz_match_rows.proofs.by_number.same_from.Goals as goal

pub returns-then-has-clause-same : goal.returns-then-has-clause-same
returns-then-has-clause-same c = λ g m f d to d' numbered plain said.
    let (j, kept) = c.has.ensures c.if-has.true in
    ((λ _. one-tree c.args.pieces.now g f c.args.number numbered (c.requires.said j (record { at = c.args.at; number = c.args.number }) kept m f d to d' plain said)), λ _. refl)

pub returns-clause-same : goal.returns-clause-same
returns-clause-same c = λ g m f d to d' numbered plain said.
    told c.same_numbered.result g f to c.is_some.result c.is_some.ensures (c.same_numbered.ensures.same g m f d to d' numbered plain said)
