use Rattle.std.proofs.Common.{refl, ap, inl}
use Rattle.mz_binary_theory.specs.Standards.{strict_standard}
use Rattle.mz_match_theory.specs.Verdict.{counts_of}
use Rattle.mz_match.proofs.Offered.{refused-first}
use Rattle.mz_match_theory.proofs.Offered.{excludes, refusal-one}
use Rattle.mz_axioms.specs.declared.axioms.AxiomsRead.TheVariants as read
use Rattle.mz_axioms.proofs.axioms.axioms_of.Goals as goal

pub axioms_in-requires : goal.axioms_in-requires
axioms_in-requires g c = (c.args.spec.now, c.args.bin.now, c.in-Ok.ensures.judged)

pub returns-in-Ok-axioms_in-clause-read : goal.returns-in-Ok-axioms_in-clause-read
returns-in-Ok-axioms_in-clause-read g c = c.in-Ok-axioms_in.ensures c.args.spec.now c.args.bin.now c.in-Ok.ensures.judged

pub returns-in-Ok-axioms_in-clause-refused : goal.returns-in-Ok-axioms_in-clause-refused
returns-in-Ok-axioms_in-clause-refused g c = λ verdict first.
    let is = c.in-Ok.ensures.judged in absurd (excludes strict_standard c.args.spec.now c.args.bin.now c.in-Ok.pair.counts verdict (is.accepts, is.counts) first)

pub returns : goal.returns
returns g c =
    let spec = c.args.spec.now in
    let bin = c.args.bin.now in
    let verdict = c.in-Err.verdict in
    let first = refused-first strict_standard spec bin verdict c.in-Err.ensures.judged c.in_default.not-Mem in
    record {
      read = first;
      accepted = λ accepts. excludes strict_standard spec bin (counts_of accepts.declared) verdict (accepts, refl) first;
      refused = λ other is. inl (ap (λ v. read.Refused v) (refusal-one strict_standard spec bin verdict other first is));
      steps = c.in-Err.ensures.steps;
      bound = c.in-Err.ensures.bound;
    }
