-- What a machine answers to a command, and to the END.
use Rattle.std.specs.Prelude.{◌≡◌, ℕ, ⊤, ◌+◌, ◌≤◌, List, length, Result, Ok, Err}
use Rattle.mz_cmd.specs.declared.command.Cmd.{Cmd}
use Rattle.mz_machine_theory.specs.MachineState.{State}
use Rattle.mz_machine_theory.specs.ProofMachine.{proof_end}
use Rattle.mz_machine_theory.specs.Bodies.{body_start}
use Rattle.mz_machine_theory.specs.Headings.{heading_of}
use Rattle.mz_layout_tables.specs.declared.rows_so_far.Rows.{Rows}
use Rattle.mz_pmachine_theory.specs.NodeIdentity.{Numbered, portable}
use Rattle.mz_pmachine.specs.Steps.{Underway, tables_for, heading_for, row_of}
use Rattle.mz_pmachine.specs.BodyAnswers.{CountsOf}
use Rattle.mz_unify.specs.declared.stop.Stop.{Stop}
use Rattle.mz_unify.specs.declared.stop.Stop.TheVariants as stop
use Rattle.mz_machine.specs.declared.machine.Finished.{Finished}
use Rattle.mz_machine.specs.declared.machine.Finished.TheVariants as finished

-- the machine before the first command
pub record IsBegun (file : List ℕ) (kind row : ℕ) (before : Rows) (u : Underway) : Type 0 where
  pub file_is : u.file ≡ file
  pub kind_is : u.kind ≡ kind
  pub row_is : u.row ≡ row
  pub before_is : u.before ≡ before
  pub state : u.state ≡ body_start portable (heading_of file kind row)
  pub next : u.next ≡ 0
  pub nodes : u.nodes ≡ length (heading_of file kind row).params

-- ---- a command

-- the same body, with at most one node more; a number above the place of the command is above all that made an expression
pub record GoesOn (u : Underway) (at : ℕ) (after : Underway) : Type 0 where
  pub file : after.file ≡ u.file
  pub kind : after.kind ≡ u.kind
  pub row : after.row ≡ u.row
  pub before : after.before ≡ u.before
  pub next : after.next ≤ at + 1
  pub nodes : after.nodes ≤ u.nodes + 1

-- what the command at a place leads to, where it isn't stopped; out of memory says nothing
abbrev pub IsStepped : {A : Type 0} → Underway → Cmd → ℕ → Underway → Result A Stop → Type 0
IsStepped u c at after (Ok x) = (row_of (tables_for u) (heading_for u) at u.state c ≡ Ok after.state) × GoesOn u at after
IsStepped u c at after (Err (stop.Rule rule)) = row_of (tables_for u) (heading_for u) at u.state c ≡ Err rule
IsStepped u c at after (Err stop.Mem) = ⊤

-- ---- the END

-- what the END leads to; out of memory says nothing
abbrev pub IsFinished : Underway → Finished → Type 0
IsFinished u (finished.Body end) = (last : State Numbered) × (proof_end portable (tables_for u) (heading_for u) u.state ≡ Ok last) × CountsOf (heading_for u) last end
IsFinished u (finished.Refused rule) = proof_end portable (tables_for u) (heading_for u) u.state ≡ Err rule
IsFinished u finished.Mem = ⊤
