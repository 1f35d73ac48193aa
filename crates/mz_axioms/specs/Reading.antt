-- What is said of a specification and a binary together (this project's own: `verify`'s refusals, or the supports).
use Rattle.std.specs.Prelude.{◌≡◌, ◌+◌, ⊤, ℕ, List}
use Rattle.mz_binary_theory.specs.FileRun.{file_steps}
use Rattle.mz_match_theory.specs.Verdict.{FirstRefusal, Ticks}
use Rattle.mz_axioms.specs.Lists.{AreSupports}
use Rattle.mz_axioms.specs.declared.axioms.AxiomsRead.{AxiomsRead}
use Rattle.mz_axioms.specs.declared.axioms.AxiomsRead.TheVariants as read
use Rattle.mz_binary_theory.specs.Standards.{strict_standard}

-- the supports of an accepted pair, or its first refusal
abbrev pub IsAxiomsRead : List ℕ → List ℕ → AxiomsRead → Type 0
IsAxiomsRead spec bin (read.Lists lists) = AreSupports spec bin lists
IsAxiomsRead spec bin (read.Refused verdict) = FirstRefusal spec bin verdict
IsAxiomsRead spec bin read.Mem = ⊤

-- the commands executed are those of verification
abbrev pub TicksAs : List ℕ → (old new : ℕ) → AxiomsRead → Type 0
TicksAs bin old new (read.Lists lists) = new ≡ old + file_steps strict_standard bin
TicksAs bin old new (read.Refused verdict) = Ticks bin old new verdict
TicksAs bin old new read.Mem = ⊤

-- the pair is accepted, and this is said of it; or out of memory
abbrev pub IsLists : AxiomsRead → Type 0
IsLists (read.Lists lists) = ⊤
IsLists (read.Refused verdict) = ⊥
IsLists read.Mem = ⊤
