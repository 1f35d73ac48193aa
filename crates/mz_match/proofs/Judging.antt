-- What follows of the answer that hands on what was read.
use Rattle.std.proofs.Common.{◌≡◌, ◌⊎◌, ℕ, List, Result, Ok, Err, refl}
use Rattle.std.specs.Prelude.{MatchResult}
use Rattle.mz_binary_theory.specs.Standards.{Standard}
use Rattle.mz_match.specs.declared.accepted.Accepted.{Accepted}
use Rattle.mz_match.specs.Judged.{IsAccepted, IsRefused, verdict_in}
use Rattle.mz_match_theory.specs.declared.verdict.Counts.{Counts}
use Rattle.mz_match_theory.specs.declared.verdict.Verdict.{Verdict}
use Rattle.mz_match_theory.specs.declared.verdict.Verdict.TheVariants as verdicts
use Rattle.mz_match_theory.specs.Verdict.{AcceptsWithBy, FirstRefusalBy, IsVerdictBy}
use Rattle.mz_match_theory.proofs.Offered.{verdict-says, refusal-says}

module _ (standard : Standard) (spec bin : List ℕ) where
  -- the verdict alone is right
  pub judged-verdict : (r : Result Accepted Verdict) → MatchResult r (IsAccepted standard spec bin) (IsRefused standard spec bin) → IsVerdictBy standard spec bin (verdict_in r)
  judged-verdict (Ok pair) is = (is.accepts, is.counts)
  judged-verdict (Err verdict) is = is.0

  -- and complete
  pub judged-accepted : (r : Result Accepted Verdict) → MatchResult r (IsAccepted standard spec bin) (IsRefused standard spec bin)
      → (counts : Counts) → AcceptsWithBy standard spec bin counts → (verdict_in r ≡ verdicts.Accepted counts) ⊎ (verdict_in r ≡ verdicts.Mem)
  judged-accepted r is counts accepts = verdict-says standard spec bin (verdict_in r) (verdicts.Accepted counts) (judged-verdict r is) accepts

  pub judged-refused : (r : Result Accepted Verdict) → MatchResult r (IsAccepted standard spec bin) (IsRefused standard spec bin)
      → (verdict : Verdict) → FirstRefusalBy standard spec bin verdict → (verdict_in r ≡ verdict) ⊎ (verdict_in r ≡ verdicts.Mem)
  judged-refused r is verdict first = verdict-says standard spec bin (verdict_in r) verdict (judged-verdict r is) (refusal-says standard spec bin verdict first)

  -- where memory lasted, a refusal is the first
  pub refused-first : (verdict : Verdict) → IsRefused standard spec bin verdict → (verdict ≡ verdicts.Mem → ⊥) → FirstRefusalBy standard spec bin verdict
  refused-first (verdicts.Accepted counts) is some = absurd (is.1 counts refl)
  refused-first (verdicts.Spec refusal) is some = is.0
  refused-first (verdicts.Binary refusal) is some = is.0
  refused-first (verdicts.Match declaration statement rule) is some = is.0
  refused-first verdicts.Mem is some = absurd (some refl)
