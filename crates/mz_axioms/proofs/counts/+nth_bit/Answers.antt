use Rattle.std.proofs.Common.{arith}
use Rattle.mz_axioms.proofs.Counting.{bits-some, clear-next, clear-there, set-here, set-next, set-there}
use Rattle.mz_axioms.proofs.counts.+nth_bit.Goals as goal

pub overflow_sub-many : goal.overflow_sub-many
overflow_sub-many t c = let some = bits-some c.args.many c.args.base c.args.word c.args.j c.requires.there in omega (arith, some)

pub nth_bit-requires : goal.nth_bit-requires
nth_bit-requires t c =
    let some = bits-some c.args.many c.args.base c.args.word c.args.j c.requires.there in
    let fits = c.requires.fits in (
      (let d = c.decreases in omega (arith, d, some)),
      (omega (arith, some, fits), clear-there c.args.many c.args.base c.args.word c.args.j c.requires.there c.if-word-eq0.true),
    )

pub returns-then-word-eq0 : goal.returns-then-word-eq0
returns-then-word-eq0 t c = clear-next c.args.many c.args.base c.args.word c.args.j c.requires.there c.nth_bit.result c.if-word-eq0.true c.nth_bit.ensures

pub returns-then-j-eq0 : goal.returns-then-j-eq0
returns-then-j-eq0 t c = set-here c.args.many c.args.base c.args.word c.args.j c.requires.there c.if-word-eq0.false c.if-j-eq0.true

pub overflow_sub-many-2 : goal.overflow_sub-many-2
overflow_sub-many-2 t c = let some = bits-some c.args.many c.args.base c.args.word c.args.j c.requires.there in omega (arith, some)

pub nth_bit-requires-2 : goal.nth_bit-requires-2
nth_bit-requires-2 t c =
    let some = bits-some c.args.many c.args.base c.args.word c.args.j c.requires.there in
    let fits = c.requires.fits in (
      (let d = c.decreases in omega (arith, d, some)),
      (omega (arith, some, fits), set-there c.args.many c.args.base c.args.word c.args.j c.requires.there c.if-word-eq0.false c.if-j-eq0.false),
    )

pub returns : goal.returns
returns t c = set-next c.args.many c.args.base c.args.word c.args.j c.requires.there c.nth_bit-2.result c.if-word-eq0.false c.if-j-eq0.false c.nth_bit-2.ensures
