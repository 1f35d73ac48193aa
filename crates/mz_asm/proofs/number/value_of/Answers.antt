use Rattle.std.proofs.Common.{arith}
use Rattle.mz_asm.proofs.Numerals.{next-value}
use Rattle.mz_asm.proofs.number.value_of.Goals as goal
use Rattle.mz_asm.proofs.number.value_of.Goals.{then-value-gt-TOO_LARGE, else-value-gt-TOO_LARGE}

pub loop-digit-preserved : goal.loop-digit-preserved
loop-digit-preserved c =
    let next = next-value c.args.digits.now c.loop-digit.digit-index c.loop-digit.value c.loop-digit-test.true c.requires c.loop-digit.invariant in
    let is = c.from.ensures in
    elim c.if-value-gt-TOO_LARGE.branch [
      | then-value-gt-TOO_LARGE w ↦ (let v = w.value-is in let over = w.if-value-gt-TOO_LARGE.true in omega (arith, next, is, v, over))
      | else-value-gt-TOO_LARGE w ↦ (let v = w.value-is in let over = w.if-value-gt-TOO_LARGE.false in omega (arith, next, is, v, over))
    ]
