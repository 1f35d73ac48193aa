-- What judging a specification and a binary answers (this project's own).
use Rattle.std.specs.Prelude.{◌≡◌, ℕ, true, List, Result, Ok, Err}
use Rattle.mz_spec.specs.Named.{IsNamed}
use Rattle.mz_binary_theory.specs.Standards.{Standard, lets_gaps}
use Rattle.mz_match.specs.declared.accepted.Accepted.{Accepted}
use Rattle.mz_match.specs.Drafts.{ListsGapsOf}
use Rattle.mz_match_theory.specs.declared.verdict.Counts.{Counts}
use Rattle.mz_match_theory.specs.declared.verdict.Verdict.{Verdict}
use Rattle.mz_match_theory.specs.declared.verdict.Verdict.TheVariants as verdicts
use Rattle.mz_match_theory.specs.Verdict.{AcceptsBy, IsVerdictBy, counts_of}

-- It was read of this text and these bytes, and they are accepted by the standard. It has so many declarations of each kind
-- as the text declares, and, where gaps are let through, the places of the gapped theorems.
pub record IsAccepted (standard : Standard) (spec bin : List ℕ) (pair : Accepted) : Type 0 where
  pub named : IsNamed spec pair.spec
  pub binary : pair.mmb ≡ bin
  pub accepts : AcceptsBy standard spec bin
  pub counts : pair.counts ≡ counts_of accepts.declared
  pub gaps : lets_gaps standard ≡ true → ListsGapsOf bin accepts.statements pair.gaps

-- the first refusal, or out of memory
abbrev pub IsRefused : Standard → List ℕ → List ℕ → Verdict → Type 0
IsRefused standard spec bin verdict = IsVerdictBy standard spec bin verdict × ((counts : Counts) → verdict ≡ verdicts.Accepted counts → ⊥)

-- the verdict alone
abbrev pub verdict_in : Result Accepted Verdict → Verdict
verdict_in (Ok pair) = verdicts.Accepted pair.counts
verdict_in (Err verdict) = verdict
