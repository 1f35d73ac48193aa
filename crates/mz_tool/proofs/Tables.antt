-- What is accepted by verifiers that compare by identity is accepted, and sound.
use Rattle.std.proofs.Common.{ℕ, List}
use Rattle.mz_match_theory.specs.declared.verdict.Verdict.{Verdict}
use Rattle.mz_match_theory.specs.declared.verdict.Verdict.TheVariants as verdicts
use Rattle.mz_match_theory.specs.Verdict.{Accepts, IsSound, IsSoundIfAccepted}
use Rattle.mz_portable.specs.Portable.{IsAcceptedByTable}
use Rattle.mz_tool_engine.specs.declared.outcome.Outcome.{Outcome}
use Rattle.mz_tool_engine.specs.declared.outcome.Outcome.TheVariants as outcomes
use Rattle.mz_tool_engine.specs.Outcomes.{OnYes}
use Rattle.mz_tool_verify.specs.Judging.{IsAccepted}
use Rattle.mz_tool_verify.proofs.Offered.{SaysYes, accepted-sound}

module _ (spec bin : List ℕ) where
  accepted-by_table : (v : Verdict) → IsAcceptedByTable spec bin v → IsAccepted v → Accepts spec bin
  accepted-by_table (verdicts.Accepted counts) (accepts, is) is_accepted = accepts
  accepted-by_table (verdicts.Spec refusal) is is_accepted = absurd is_accepted
  accepted-by_table (verdicts.Binary refusal) is is_accepted = absurd is_accepted
  accepted-by_table (verdicts.Match declaration statement rule) is is_accepted = absurd is_accepted
  accepted-by_table verdicts.Mem is is_accepted = absurd is_accepted

  pub judged-portable : (v : Verdict) (o : Outcome) → IsSoundIfAccepted spec bin v → IsAcceptedByTable spec bin v → SaysYes v o → OnYes o (IsSound spec bin × Accepts spec bin)
  judged-portable v (outcomes.Yes put text) sound table (nothing, (accepted, line)) = (accepted-sound spec bin v sound accepted, accepted-by_table v table accepted)
  judged-portable v (outcomes.No text) sound table says = tt
  judged-portable v outcomes.Mem sound table says = tt
