use Rattle.std.proofs.Common.{arith}
use Rattle.mz_binary_theory.specs.Standards.{strict_standard}
use Rattle.mz_match.proofs.Offered.{refused-first}
use Rattle.mz_decompile.proofs.Answered.{text-answered}
use Rattle.mz_decompile.proofs.decompiled.decompile_bytes.Goals as goal

pub of_accepted-requires : goal.of_accepted-requires
of_accepted-requires g c = (c.args.spec.now, c.args.bin.now, c.in-Ok.ensures.judged)

pub returns-in-Ok-of_accepted-clause-answer : goal.returns-in-Ok-of_accepted-clause-answer
returns-in-Ok-of_accepted-clause-answer g c = c.in-Ok-of_accepted.ensures.answer c.args.spec.now c.args.bin.now c.in-Ok.ensures.judged

pub returns-in-Ok-of_accepted-clause-text : goal.returns-in-Ok-of_accepted-clause-text
returns-in-Ok-of_accepted-clause-text g c =
    text-answered c.typed_or_faulty.ensures c.plain_texts_are_texts.ensures c.args.spec.now c.args.bin.now (λ i. let fits = c.type_inv.bin i in omega (arith, fits)) c.requires.bin c.in-Ok-of_accepted.answer
    (c.in-Ok-of_accepted.ensures.answer c.args.spec.now c.args.bin.now c.in-Ok.ensures.judged)

pub returns-clause-answer : goal.returns-clause-answer
returns-clause-answer g c = refused-first strict_standard c.args.spec.now c.args.bin.now c.in-Err.verdict c.in-Err.ensures.judged c.in_default.not-Mem
