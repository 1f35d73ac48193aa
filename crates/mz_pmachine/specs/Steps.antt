-- A machine that takes commands one by one.
use Rattle.std.specs.Prelude.{ℕ, suc, List, Option, Result}
use Rattle.mz_cmd.specs.declared.rule.K.{K}
use Rattle.mz_cmd.specs.declared.command.Cmd.{Cmd}
use Rattle.mz_machine_theory.specs.MachineState.{RowsBefore, State, Heading}
use Rattle.mz_machine_theory.specs.ProofMachine.{ends_with}
use Rattle.mz_machine_theory.specs.Bodies.{BodyCommand, body_command, match_steps}
use Rattle.mz_machine_theory.specs.Headings.{heading_of}
use Rattle.mz_machine_env.specs.Before.{tables_before}
use Rattle.mz_machine_env.specs.OneCommand.{row_in, steps_in}
use Rattle.mz_layout_tables.specs.declared.rows_so_far.Rows.{Rows}
use Rattle.mz_pmachine_theory.specs.NodeIdentity.{Numbered, portable}

-- a machine between two commands: the file, the statement whose body runs with the rows before it, the state, a number
-- above those of all commands that have made an expression, and how many nodes there are
pub record Underway : Type 0 where
  pub file : List ℕ
  pub kind : ℕ
  pub row : ℕ
  pub before : Rows
  pub state : State Numbered
  pub next : ℕ
  pub nodes : ℕ

abbrev pub tables_for : Underway → RowsBefore
tables_for u = tables_before u.file u.before

abbrev pub heading_for : Underway → Heading
heading_for u = heading_of u.file u.kind u.row

-- ---- one command

-- the row of a command other than END; one that is not of this body has none
abbrev pub row_by : RowsBefore → ℕ → State Numbered → Option BodyCommand → Result (State Numbered) K
row_by tables at st u = row_in portable tables at st u

abbrev pub row_of : RowsBefore → Heading → ℕ → State Numbered → Cmd → Result (State Numbered) K
row_of tables h at st c = row_by tables at st (body_command portable h.kind c.code c.value)

-- it and the unify commands that it executes
abbrev pub steps_by : RowsBefore → State Numbered → Option BodyCommand → ℕ
steps_by tables st u = steps_in portable tables st u

abbrev pub steps_for : RowsBefore → Heading → State Numbered → Cmd → ℕ
steps_for tables h st c = steps_by tables st (body_command portable h.kind c.code c.value)

-- the END, and the commands of the row's own stream that it executes
abbrev pub end_steps : RowsBefore → Heading → State Numbered → ℕ
end_steps tables h st = suc (match_steps portable tables st (ends_with portable tables h st))
