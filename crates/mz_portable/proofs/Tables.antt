-- What is accepted by identity is accepted by the standard machine.
use Rattle.std.proofs.Common.{ℕ, List}
use Rattle.mz_binary_theory.proofs.Offered.{good-by-table}
use Rattle.mz_pmachine_theory.specs.FilesByIdentity.{portable_standard}
use Rattle.mz_match_theory.specs.declared.verdict.Counts.{Counts}
use Rattle.mz_match_theory.specs.declared.verdict.Verdict.{Verdict}
use Rattle.mz_match_theory.specs.declared.verdict.Verdict.TheVariants as verdicts
use Rattle.mz_match_theory.specs.Verdict.{AcceptsWith, IsSoundIfAccepted}
use Rattle.mz_match_theory.proofs.Offered.{accepted-sound}
use Rattle.mz_portable.specs.Portable.{PortablyAccepts, IsPortableVerdict, IsAcceptedByTable}

pub by-table : (spec bin : List ℕ) (counts : Counts) → PortablyAccepts spec bin counts → AcceptsWith spec bin counts
by-table spec bin counts (a, is) =
    (record { declared = a.declared; statements = a.statements; is_spec = a.is_spec; is_good = good-by-table portable_standard bin a.statements a.is_good; agrees = a.agrees }, is)

pub accepted-by-table : (spec bin : List ℕ) (v : Verdict) → IsPortableVerdict spec bin v → IsAcceptedByTable spec bin v
accepted-by-table spec bin (verdicts.Accepted counts) accepts = by-table spec bin counts accepts
accepted-by-table spec bin (verdicts.Spec refusal) is = tt
accepted-by-table spec bin (verdicts.Binary refusal) is = tt
accepted-by-table spec bin (verdicts.Match declaration statement rule) is = tt
accepted-by-table spec bin verdicts.Mem is = tt

pub sound : (spec bin : List ℕ) (v : Verdict) → IsPortableVerdict spec bin v → IsSoundIfAccepted spec bin v
sound spec bin (verdicts.Accepted counts) accepts = accepted-sound spec bin (by-table spec bin counts accepts).0
sound spec bin (verdicts.Spec refusal) is = tt
sound spec bin (verdicts.Binary refusal) is = tt
sound spec bin (verdicts.Match declaration statement rule) is = tt
sound spec bin verdicts.Mem is = tt
