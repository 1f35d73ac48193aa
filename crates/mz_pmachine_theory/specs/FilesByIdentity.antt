-- Binaries whose bodies run by identity (verifiers that compare expressions by identity; the standard is this project's
-- own).
use Rattle.std.specs.Prelude.{◌≡◌, ℕ, List, Option, None, Result, Ok, Err}
use Rattle.mz_base.specs.declared.mode.Mode.TheVariants.{Strict}
use Rattle.mz_cmd.specs.declared.rule.K.{K}
use Rattle.mz_cmd.specs.declared.rule.K.TheVariants as k
use Rattle.mz_cmd.specs.declared.rule.Refusal.{Refusal}
use Rattle.mz_machine_theory.specs.Bodies.{body_run, body_steps}
use Rattle.mz_machine_theory.specs.WorkedRuns.{with_byte}
use Rattle.mz_binary_theory.specs.Standards.{Standard}
use Rattle.mz_binary_theory.specs.FileRun.{run_file}
use Rattle.mz_binary_theory.specs.Files.{one, imp, gen, fold, saved}
use Rattle.mz_binary_theory.specs.WholeExamples.{fault_of, refused}
use Rattle.mz_pmachine_theory.specs.NodeIdentity.{portable}

-- it runs, or its first rule fails
abbrev pub passes : {A : Type 0} → Result A (ℕ × K) → Result (Unit {0}) (ℕ × K)
passes (Ok x) = Ok tt
passes (Err f) = Err f

-- Each body runs by identity first. Then the standard machine lets it through too, so the commands by identity are counted.
abbrev pub portable_standard : Standard
portable_standard = record { mode = Strict; first = λ tables h at bytes. passes (body_run portable tables h at bytes); steps = body_steps portable }

abbrev pub first_fault_by_identity : List ℕ → Option Refusal
first_fault_by_identity file = fault_of (run_file portable_standard file)

-- files that are good by identity; and some that are good by the standard machine alone, for they make twice what is asked
-- to be the same
abbrev pub ByIdentity : Type 0
ByIdentity =
    (first_fault_by_identity one ≡ None)
    × (first_fault_by_identity (with_byte 104 0x01 gen) ≡ None)
    × (first_fault_by_identity imp ≡ refused 5 234 k.UnifyReference)
    × (first_fault_by_identity fold ≡ refused 4 156 k.Unfold)
    × (first_fault_by_identity saved ≡ refused 4 163 k.Unfold)
