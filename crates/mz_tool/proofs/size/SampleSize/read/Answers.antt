use Rattle.std.proofs.Common.{◌≡◌, ◌∙◌, Ok, true, false, inl, inr, sym, subst, arith}
use Rattle.std.proofs.lemmas.Fmt.{parse-decimal}
use Rattle.mz_tool.specs.Sizes.{BeginsNumber}
use Rattle.mz_tool.proofs.Sizes.{decimal-begins, reads-number, ok-one}
use Rattle.mz_tool.proofs.size.SampleSize.read.Goals as goal

pub returns-then-not-begins_number-clause-other : goal.returns-then-not-begins_number-clause-other
returns-then-not-begins_number-clause-other c = λ n some few is.
    let begins = subst BeginsNumber (sym is ∙ sym c.as_bytes.ensures.value) (decimal-begins n some few) in
    let both : false ≡ true = sym c.if-not-begins_number.true ∙ c.begins_number.ensures.1 begins in cc

pub returns-in_default-clause-other : goal.returns-in_default-clause-other
returns-in_default-clause-other c = λ n some few is.
    let read : c.parse.result ≡ Ok n = parse-decimal 32 n c.args.word.now c.parse.result (omega (arith, few)) (omega (arith, few)) is c.parse.ensures.value.0 in
    c.in_default.not-Ok n read

pub returns-then-number-eq0-clause-other : goal.returns-then-number-eq0-clause-other
returns-then-number-eq0-clause-other c = λ n some few is.
    let read : c.parse.result ≡ Ok n = parse-decimal 32 n c.args.word.now c.parse.result (omega (arith, few)) (omega (arith, few)) is c.parse.ensures.value.0 in
    let same : c.in-Ok.number ≡ n = ok-one c.parse.result c.in-Ok.number n c.in-Ok.is read in
    elim c.then-number-eq0.either [
      | inl none ↦ omega (arith, none, same, some)
      | inr many ↦ omega (arith, many.1, same, few)
    ]

pub returns-clause-number : goal.returns-clause-number
returns-clause-number c =
    let begins = subst BeginsNumber c.as_bytes.ensures.value (c.begins_number.ensures.0 c.if-not-begins_number.false) in
    reads-number c.args.word.now c.parse.result c.in-Ok.number begins (omega (arith, c.if-number-gt-LARGEST.false)) c.parse.ensures.value.0 c.in-Ok.is
