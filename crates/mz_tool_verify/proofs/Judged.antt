-- What a verdict says is what is answered.
use Rattle.std.proofs.Common.{◌≡◌, ◌⊎◌, ℕ, List, None, subst, inl, inr}
use Rattle.mz_binary_theory.specs.Standards.{Standard}
use Rattle.mz_match_theory.specs.declared.verdict.Counts.{Counts}
use Rattle.mz_match_theory.specs.declared.verdict.Verdict.{Verdict}
use Rattle.mz_match_theory.specs.declared.verdict.Verdict.TheVariants as verdicts
use Rattle.mz_match_theory.specs.Verdict.{AcceptsWithBy, FirstRefusalBy, IsVerdictBy, IsSound, IsSoundIfAccepted, line_of}
use Rattle.mz_tool_engine.specs.declared.outcome.Outcome.{Outcome}
use Rattle.mz_tool_engine.specs.declared.outcome.Outcome.TheVariants as outcomes
use Rattle.mz_tool_verify.specs.Judging.{IsAccepted, IsRefusal}
use Rattle.mz_tool_engine.specs.Outcomes.{IfYes, IfNo, OnYes, OnNo}
use Rattle.mz_tool_verify.specs.Verify.{IsVerifiedBy, IsRefutedBy}

-- the verdict's line is written, and nothing put
abbrev pub SaysYes : Verdict → Outcome → Type 0
SaysYes v o = IfYes o (λ put text. (put ≡ None) × (IsAccepted v × (text ≡ line_of v)))

abbrev pub SaysNo : Verdict → Outcome → Type 0
SaysNo v o = IfNo o (λ text. IsRefusal v × (text ≡ line_of v))

module _ (standard : Standard) (spec bin : List ℕ) where
  accepted-line : (v : Verdict) (text : List ℕ) → IsVerdictBy standard spec bin v → IsAccepted v → text ≡ line_of v → IsVerifiedBy standard spec bin text
  accepted-line (verdicts.Accepted counts) text is is_accepted line = (counts, is, line)
  accepted-line (verdicts.Spec refusal) text is is_accepted line = absurd is_accepted
  accepted-line (verdicts.Binary refusal) text is is_accepted line = absurd is_accepted
  accepted-line (verdicts.Match declaration statement rule) text is is_accepted line = absurd is_accepted
  accepted-line verdicts.Mem text is is_accepted line = absurd is_accepted

  refused-line : (v : Verdict) (text : List ℕ) → IsVerdictBy standard spec bin v → IsRefusal v → text ≡ line_of v → IsRefutedBy standard spec bin text
  refused-line (verdicts.Accepted counts) text is is_refusal line = absurd is_refusal
  refused-line (verdicts.Spec refusal) text is is_refusal line = (verdicts.Spec refusal, is, line)
  refused-line (verdicts.Binary refusal) text is is_refusal line = (verdicts.Binary refusal, is, line)
  refused-line (verdicts.Match declaration statement rule) text is is_refusal line = (verdicts.Match declaration statement rule, is, line)
  refused-line verdicts.Mem text is is_refusal line = absurd is_refusal

  accepted-not_refused : (v : Verdict) → FirstRefusalBy standard spec bin v → IsAccepted v → ⊥
  accepted-not_refused (verdicts.Accepted counts) first is_accepted = first
  accepted-not_refused (verdicts.Spec refusal) first is_accepted = is_accepted
  accepted-not_refused (verdicts.Binary refusal) first is_accepted = is_accepted
  accepted-not_refused (verdicts.Match declaration statement rule) first is_accepted = is_accepted
  accepted-not_refused verdicts.Mem first is_accepted = is_accepted

  pub judged-yes : (v : Verdict) (o : Outcome) → IsVerdictBy standard spec bin v → SaysYes v o → IfYes o (λ put text. (put ≡ None) × IsVerifiedBy standard spec bin text)
  judged-yes v (outcomes.Yes put text) is (nothing, (accepted, line)) = (nothing, accepted-line v text.items is accepted line)
  judged-yes v (outcomes.No text) is says = tt
  judged-yes v outcomes.Mem is says = tt

  pub judged-no : (v : Verdict) (o : Outcome) → IsVerdictBy standard spec bin v → SaysNo v o → IfNo o (λ text. IsRefutedBy standard spec bin text)
  judged-no v (outcomes.Yes put text) is says = tt
  judged-no v (outcomes.No text) is (refusal, line) = refused-line v text.items is refusal line
  judged-no v outcomes.Mem is says = tt

  pub judged-only_yes : (v : Verdict) (o : Outcome) → ((counts : Counts) → AcceptsWithBy standard spec bin counts → (v ≡ verdicts.Accepted counts) ⊎ (v ≡ verdicts.Mem)) → SaysNo v o
      → (text : List ℕ) → IsVerifiedBy standard spec bin text → OnNo o ⊥
  judged-only_yes v (outcomes.Yes put said) accepted says text is = tt
  judged-only_yes v (outcomes.No said) accepted (refusal, line) text (counts, accepts, _) = elim (accepted counts accepts) [
    | inl e ↦ subst IsRefusal e refusal
    | inr e ↦ subst IsRefusal e refusal
  ]
  judged-only_yes v outcomes.Mem accepted says text is = tt

  pub judged-only_no : (v : Verdict) (o : Outcome) → ((verdict : Verdict) → FirstRefusalBy standard spec bin verdict → (v ≡ verdict) ⊎ (v ≡ verdicts.Mem)) → SaysYes v o
      → (text : List ℕ) → IsRefutedBy standard spec bin text → OnYes o ⊥
  judged-only_no v (outcomes.Yes put said) refused (nothing, (accepted, line)) text (verdict, first, _) = elim (refused verdict first) [
    | inl e ↦ accepted-not_refused verdict first (subst IsAccepted e accepted)
    | inr e ↦ subst IsAccepted e accepted
  ]
  judged-only_no v (outcomes.No said) refused says text is = tt
  judged-only_no v outcomes.Mem refused says text is = tt

module _ (spec bin : List ℕ) where
  pub accepted-sound : (v : Verdict) → IsSoundIfAccepted spec bin v → IsAccepted v → IsSound spec bin
  accepted-sound (verdicts.Accepted counts) sound is_accepted = sound
  accepted-sound (verdicts.Spec refusal) sound is_accepted = absurd is_accepted
  accepted-sound (verdicts.Binary refusal) sound is_accepted = absurd is_accepted
  accepted-sound (verdicts.Match declaration statement rule) sound is_accepted = absurd is_accepted
  accepted-sound verdicts.Mem sound is_accepted = absurd is_accepted

  pub judged-sound : (v : Verdict) (o : Outcome) → IsSoundIfAccepted spec bin v → SaysYes v o → OnYes o (IsSound spec bin)
  judged-sound v (outcomes.Yes put text) sound (nothing, (accepted, line)) = accepted-sound v sound accepted
  judged-sound v (outcomes.No text) sound says = tt
  judged-sound v outcomes.Mem sound says = tt
