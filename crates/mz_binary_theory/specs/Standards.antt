-- To what the bodies of a binary are held (the .mmb format, its proof machine; the standards are this project's own).
use Rattle.std.specs.Prelude.{ℕ, Bool, true, false, List, Result, Ok}
use Rattle.mz_base.specs.declared.mode.Mode.{Mode}
use Rattle.mz_base.specs.declared.mode.Mode.TheVariants.{Strict, Draft}
use Rattle.mz_base.specs.Checks.{Checks}
use Rattle.mz_base.specs.Gaps.{gaps_of}
use Rattle.mz_cmd.specs.declared.rule.K.{K}
use Rattle.mz_logic_theory.specs.Tree.{Tree}
use Rattle.mz_machine_theory.specs.Profile.{plain}
use Rattle.mz_machine_theory.specs.Steps.{◌>>◌}
use Rattle.mz_machine_theory.specs.MachineState.{RowsBefore, State, Heading}
use Rattle.mz_machine_theory.specs.Bodies.{body_run, body_steps, checks_of}

-- Each body runs on the standard machine, which lets gaps through or not. A standard may ask for something else first,
-- and counts the commands that are executed.
pub record Standard : Type 0 where
  pub mode : Mode
  pub first : RowsBefore → Heading → ℕ → List ℕ → Result (Unit {0}) (ℕ × K)
  pub steps : RowsBefore → Heading → ℕ → List ℕ → ℕ

-- gaps are let through
abbrev pub lets_gaps : Standard → Bool
lets_gaps standard = gaps_of standard.mode

-- what the run of a body comes to, whose bytes begin at a place
abbrev pub run_by : Standard → RowsBefore → Heading → ℕ → List ℕ → Result (State Tree) (ℕ × K)
run_by standard tables h at bytes = standard.first tables h at bytes >> body_run (plain (lets_gaps standard)) tables h at bytes

-- the body as ordered checks
abbrev pub checks_by : Standard → RowsBefore → Heading → ℕ → List ℕ → Checks (ℕ × K)
checks_by standard tables h at bytes = checks_of (run_by standard tables h at bytes)

-- the standard machine alone
abbrev pub published : Mode → Standard
published mode = record { mode = mode; first = λ tables h at bytes. Ok tt; steps = body_steps (plain (gaps_of mode)) }

-- without gaps and with them
abbrev pub strict_standard : Standard
strict_standard = published Strict

abbrev pub draft_standard : Standard
draft_standard = published Draft

abbrev pub by_table : Bool → Standard
by_table false = strict_standard
by_table true = draft_standard
