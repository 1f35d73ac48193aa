use Rattle.std.proofs.Common.{refl, arith}
use Rattle.mz_logic_theory.specs.Declaration.{signatures}
use Rattle.mz_logic_theory.specs.Legality.{AllInRange}
use Rattle.mz_logic_theory.proofs.Offered.{at-end}
use Rattle.mz_logic.proofs.sorts.+in_range.Goals as goal

pub all_in_range-returns : goal.all_in_range-returns
all_in_range-returns t c =
    (λ _. c.loop-i.invariant.0 (at-end (AllInRange (signatures c.args.env.now) c.args.end) c.args.es.now c.loop-i.i (omega (arith, c.len-i-end.ensures, c.loop-i-test.false)) tt), λ _. refl)
