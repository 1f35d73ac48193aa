-- Each sample's text is accepted against its specification.
use Rattle.std.proofs.Common.{◌≡◌, false, List, subst}
use Rattle.mz_mmu_theory.specs.Meaning.{marked}
use Rattle.mz_mmu_theory.specs.Statements.{Statement}
use Rattle.mz_mmu_theory.proofs.Offered.{one_reading}
use Rattle.mz_spec_proved_theory.specs.Match.{publics, Agrees}
use Rattle.mz_tool.specs.Samples.{sample_text}
use Rattle.mz_tool.specs.Laws.{SamplesAreAccepted}
use Rattle.mz_tool.proofs.Statements.{sample_statements}
use Rattle.mz_tool.proofs.Limits.{sample-within}
use Rattle.mz_tool.proofs.Written.{sample-read}
use Rattle.mz_tool.proofs.Agreeing.{sample_declarations, sample-agree}
use Rattle.mz_tool.proofs.Specified.{sample-specified}

pub samples-accepted : SamplesAreAccepted
samples-accepted n few =
    let read = sample-read n few in (
      (sample_statements n, read, sample-within n few),
      record {
        declared = sample_declarations n;
        is_spec = sample-specified n few;
        agrees = λ ss typed.
            let ((ns, here), _) = read in
            let ((ms, there), _) = typed in
            let same : sample_statements n ≡ ss = (one_reading false (sample_text n) ns ms (sample_statements n) ss here there).1 in
            subst (λ (xs : List Statement). Agrees (sample_declarations n) (publics (marked xs))) same (sample-agree n);
      },
    )
