-- What is said of a verdict (this project's own).
use Rattle.std.specs.Prelude.{⊤}
use Rattle.mz_match_theory.specs.declared.verdict.Verdict.{Verdict}
use Rattle.mz_match_theory.specs.declared.verdict.Verdict.TheVariants as verdicts

-- the binary is accepted
abbrev pub IsAccepted : Verdict → Type 0
IsAccepted (verdicts.Accepted counts) = ⊤
IsAccepted (verdicts.Spec refusal) = ⊥
IsAccepted (verdicts.Binary refusal) = ⊥
IsAccepted (verdicts.Match declaration statement rule) = ⊥
IsAccepted verdicts.Mem = ⊥

-- the specification or the binary is refused
abbrev pub IsRefusal : Verdict → Type 0
IsRefusal (verdicts.Accepted counts) = ⊥
IsRefusal (verdicts.Spec refusal) = ⊤
IsRefusal (verdicts.Binary refusal) = ⊤
IsRefusal (verdicts.Match declaration statement rule) = ⊤
IsRefusal verdicts.Mem = ⊥
