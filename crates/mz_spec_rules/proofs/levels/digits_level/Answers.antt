use Rattle.std.proofs.Common.{◌+◌, arith}
use Rattle.std.proofs.lemmas.Str.Parse.{digits_value-take-le}
use Rattle.mz_spec_rules.proofs.Numerals.{next-value}
use Rattle.mz_spec_rules.proofs.levels.digits_level.Goals as goal

pub returns-then-value-gt-HIGHEST_LEVEL : goal.returns-then-value-gt-HIGHEST_LEVEL
returns-then-value-gt-HIGHEST_LEVEL c =
    let digits = c.args.digits.now in
    let i = c.loop-digit.digit-index in
    let next = next-value digits i c.loop-digit.value c.loop-digit-test.true c.requires c.loop-digit.invariant.value in
    let most = digits_value-take-le 10 digits (i + 1) (omega arith) in
    let is = c.from.ensures in
    let high = c.if-value-gt-HIGHEST_LEVEL.true in
    grind arith

pub loop-digit-preserved : goal.loop-digit-preserved
loop-digit-preserved c =
    let digits = c.args.digits.now in
    let i = c.loop-digit.digit-index in
    let next = next-value digits i c.loop-digit.value c.loop-digit-test.true c.requires c.loop-digit.invariant.value in
    let is = c.from.ensures in
    let high = c.if-value-gt-HIGHEST_LEVEL.false in
    record { value = grind arith; most = grind arith }
