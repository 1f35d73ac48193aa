use Rattle.std.proofs.Common.{arith}
use Rattle.mz_axioms.proofs.Counting.{number-there, row-there}
use Rattle.mz_axioms.proofs.counts.nth_number.Goals as goal

pub nth-row-requires-clause-starts : goal.nth-row-requires-clause-starts
nth-row-requires-clause-starts c = c.requires.kept.starts

pub nth-row-requires-clause-power : goal.nth-row-requires-clause-power
nth-row-requires-clause-power c = c.requires.kept.power

pub nth-row-requires-clause-fits : goal.nth-row-requires-clause-fits
nth-row-requires-clause-fits c = let small = c.requires.kept.small in omega (arith, small)

pub index-found-requires : goal.index-found-requires
index-found-requires c =
    let lt = row-there c.args.table.now c.args.set c.args.j c.nth-row.result c.requires.within c.requires.there c.nth-row.ensures in
    let long = c.args.table.now.rows.ok.0 in
    omega (arith, lt, long)

pub returns : goal.returns
returns c =
    number-there c.args.table.now c.args.set c.args.j c.nth-row.result c.index-found.result.now c.nth-row.ensures
    (row-there c.args.table.now c.args.set c.args.j c.nth-row.result c.requires.within c.requires.there c.nth-row.ensures) c.index-found.ensures
