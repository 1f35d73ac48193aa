-- What a machine answers to a command, and to the END.
use Rattle.std.specs.Prelude.{◌≡◌, ℕ, ⊤, ◌+◌, ◌≤◌, ◌||◌, Bool, false, List, length, Result, Ok, Err}
use Rattle.mz_cmd.specs.declared.command.Cmd.{Cmd}
use Rattle.mz_cmd.specs.Codes.{proof_code}
use Rattle.mz_machine_theory.specs.Profile.{plain}
use Rattle.mz_logic_theory.specs.Tree.{Tree}
use Rattle.mz_machine_theory.specs.MachineState.{State}
use Rattle.mz_machine_theory.specs.ProofMachine.{proof_end}
use Rattle.mz_machine_theory.specs.Bodies.{body_command, body_start}
use Rattle.mz_machine_theory.specs.Headings.{heading_of}
use Rattle.mz_machine.specs.Steps.{Underway, tables_for, heading_for, row_of, is_sorry, TakesNone}
use Rattle.mz_machine.specs.BodyAnswers.{CountsOf}
use Rattle.mz_layout_tables.specs.declared.rows_so_far.Rows.{Rows}
use Rattle.mz_unify.specs.declared.stop.Stop.{Stop}
use Rattle.mz_unify.specs.declared.stop.Stop.TheVariants as stop
use Rattle.mz_machine.specs.declared.machine.Stepped.{Stepped}
use Rattle.mz_machine.specs.declared.machine.Stepped.TheVariants as stepped
use Rattle.mz_machine.specs.declared.body.BodyChecked.{BodyChecked}
use Rattle.mz_machine.specs.declared.body.BodyChecked.TheVariants.{Good, Refused, Mem}
use Rattle.mz_machine.specs.declared.machine.Finished.{Finished}
use Rattle.mz_machine.specs.declared.machine.Finished.TheVariants as finished

-- the machine before the first command
pub record IsBegun (gaps : Bool) (file : List ℕ) (kind row : ℕ) (before : Rows) (u : Underway) : Type 0 where
  pub gaps_are : u.gaps ≡ gaps
  pub file_is : u.file ≡ file
  pub kind_is : u.kind ≡ kind
  pub row_is : u.row ≡ row
  pub before_is : u.before ≡ before
  pub state : u.state ≡ body_start (plain gaps) (heading_of file kind row)
  pub no_gap : u.sorry ≡ false
  pub nodes : u.nodes ≡ length (heading_of file kind row).params

-- ---- a command

-- Ref with this operand
abbrev pub reference : (place len : ℕ) → Cmd
reference place len = record { code = 0x12; value = place; len = len }

-- the same body, with at most one expression more in the store; a gap was left before or is left now
pub record GoesOn (u : Underway) (c : Cmd) (after : Underway) : Type 0 where
  pub gaps : after.gaps ≡ u.gaps
  pub file : after.file ≡ u.file
  pub kind : after.kind ≡ u.kind
  pub row : after.row ≡ u.row
  pub before : after.before ≡ u.before
  pub sorry : after.sorry ≡ (u.sorry || is_sorry (proof_code c.code))
  pub nodes : after.nodes ≤ u.nodes + 1

-- what a command leads to, its place being `at`; out of memory comes only where memory is taken
abbrev pub IsStepped : Underway → Cmd → ℕ → Stepped → Type 0
IsStepped u c at (stepped.Machine after) = (row_of u.gaps (tables_for u) (heading_for u) at u.state c ≡ Ok after.state) × GoesOn u c after
IsStepped u c at (stepped.Refused rule) = row_of u.gaps (tables_for u) (heading_for u) at u.state c ≡ Err rule
IsStepped u c at stepped.Mem = TakesNone u.state (body_command (plain u.gaps) (heading_for u).kind c.code c.value) → ⊥

-- it isn't out of memory, and this holds; or it is
abbrev pub UnlessMem : Stepped → Type 0 → Type 0
UnlessMem (stepped.Machine after) P = P
UnlessMem (stepped.Refused rule) P = P
UnlessMem stepped.Mem P = ⊤

-- what became of a command that has led to this machine
abbrev pub stepped_to : {A : Type 0} → Underway → Result A Stop → Stepped
stepped_to after (Ok x) = stepped.Machine after
stepped_to after (Err (stop.Rule rule)) = stepped.Refused rule
stepped_to after (Err stop.Mem) = stepped.Mem

-- ---- the END

-- what the END leads to; out of memory says nothing
abbrev pub IsFinished : Underway → Finished → Type 0
IsFinished u (finished.Body end) = (last : State Tree) × (proof_end (plain u.gaps) (tables_for u) (heading_for u) u.state ≡ Ok last) × CountsOf (heading_for u) last end × (end.sorry ≡ u.sorry)
IsFinished u (finished.Refused rule) = proof_end (plain u.gaps) (tables_for u) (heading_for u) u.state ≡ Err rule
IsFinished u finished.Mem = ⊤

abbrev pub UnlessEndMem : Finished → Type 0 → Type 0
UnlessEndMem (finished.Body end) P = P
UnlessEndMem (finished.Refused rule) P = P
UnlessEndMem finished.Mem P = ⊤

-- what the END at a place makes of the body
abbrev pub ended_at : ℕ → Finished → BodyChecked
ended_at at (finished.Body end) = Good end
ended_at at (finished.Refused rule) = Refused at rule
ended_at at finished.Mem = Mem

-- and what stops a command at a place
abbrev pub stopped_at : ℕ → Stop → BodyChecked
stopped_at at (stop.Rule rule) = Refused at rule
stopped_at at stop.Mem = Mem
