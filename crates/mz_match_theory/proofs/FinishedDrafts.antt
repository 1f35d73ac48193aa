-- What is accepted, beside what is accepted as a draft.
use Rattle.std.proofs.Common.{◌≡◌, ℕ, List}
use Rattle.std.specs.Prelude.{◌↔◌}
use Rattle.mz_binary_theory.specs.Gapped.{NoneIsGapped}
use Rattle.mz_binary_theory.specs.Standards.{draft_standard}
use Rattle.mz_binary_theory.proofs.Offered.{finished-good}
use Rattle.mz_match_theory.specs.declared.verdict.Counts.{Counts}
use Rattle.mz_match_theory.specs.Verdict.{AcceptsBy, AcceptsWith, counts_of}

pub accepted-exactly : (spec bin : List ℕ) (counts : Counts) → AcceptsWith spec bin counts ↔ ((draft : AcceptsBy draft_standard spec bin) × (counts ≡ counts_of draft.declared) × NoneIsGapped bin draft.statements)
accepted-exactly spec bin counts = (
  (λ (a, is). (
    record { declared = a.declared; statements = a.statements; is_spec = a.is_spec; is_good = ((finished-good bin a.statements).0 a.is_good).0; agrees = a.agrees },
    is,
    ((finished-good bin a.statements).0 a.is_good).1,
  )),
  (λ (d, is, none). (
    record { declared = d.declared; statements = d.statements; is_spec = d.is_spec; is_good = (finished-good bin d.statements).1 (d.is_good, none); agrees = d.agrees },
    is,
  )),
)
