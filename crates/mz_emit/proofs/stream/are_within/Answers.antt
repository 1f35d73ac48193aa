use Rattle.std.proofs.Common.{eq-eqb}
use Rattle.std.proofs.lemmas.Bool.{eqb-true}
use Rattle.mz_emit.proofs.Telling.{within_from, within_to}
use Rattle.mz_emit.proofs.stream.are_within.Goals as goal

pub returns : goal.returns
returns c = (λ is. within_from c.args.bits c.args.others c.ranges.bits.fits c.ranges.others.fits (eqb-true _ _ is), λ all. eq-eqb _ _ (within_to c.args.bits c.args.others c.ranges.bits.fits c.ranges.others.fits all))
