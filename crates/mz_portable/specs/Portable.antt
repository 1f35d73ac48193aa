-- What is said of a specification and a binary by verifiers that compare by identity (mm0.md's and the .mmb format's
-- parts; the order of refusals is this project's own).
use Rattle.std.specs.Prelude.{⊤, ℕ, List}
use Rattle.mz_pmachine_theory.specs.FilesByIdentity.{portable_standard}
use Rattle.mz_match_theory.specs.declared.verdict.Counts.{Counts}
use Rattle.mz_match_theory.specs.declared.verdict.Verdict.{Verdict}
use Rattle.mz_match_theory.specs.declared.verdict.Verdict.TheVariants as verdicts
use Rattle.mz_match_theory.specs.Verdict.{AcceptsWith, AcceptsWithBy, FirstRefusalBy, IsVerdictBy, TicksBy}

-- the specification declares so many of each kind, the binary is good by identity, and its public statements agree
abbrev pub PortablyAccepts : List ℕ → List ℕ → Counts → Type 0
PortablyAccepts spec bin counts = AcceptsWithBy portable_standard spec bin counts

-- the first refusal: of the specification, else of the binary by identity or of the match, whichever comes first
abbrev pub FirstPortableRefusal : List ℕ → List ℕ → Verdict → Type 0
FirstPortableRefusal spec bin verdict = FirstRefusalBy portable_standard spec bin verdict

-- accepted, or the first refusal; out of memory says nothing
abbrev pub IsPortableVerdict : List ℕ → List ℕ → Verdict → Type 0
IsPortableVerdict spec bin verdict = IsVerdictBy portable_standard spec bin verdict

-- the commands executed, counted as the verdict by the standard machine counts them
abbrev pub PortableTicks : List ℕ → (old new : ℕ) → Verdict → Type 0
PortableTicks bin old new verdict = TicksBy portable_standard bin old new verdict

-- what is accepted is accepted by the standard machine
abbrev pub IsAcceptedByTable : List ℕ → List ℕ → Verdict → Type 0
IsAcceptedByTable spec bin (verdicts.Accepted counts) = AcceptsWith spec bin counts
IsAcceptedByTable spec bin (verdicts.Spec refusal) = ⊤
IsAcceptedByTable spec bin (verdicts.Binary refusal) = ⊤
IsAcceptedByTable spec bin (verdicts.Match declaration statement rule) = ⊤
IsAcceptedByTable spec bin verdicts.Mem = ⊤
