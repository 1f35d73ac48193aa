-- A machine that takes commands one by one.
use Rattle.std.specs.Prelude.{ℕ, ⊤, suc, Bool, true, false, List, Option, Some, None, Result, slice_get, IsTrue}
use Rattle.mz_cmd.specs.declared.rule.K.{K}
use Rattle.mz_cmd.specs.declared.command.Cmd.{Cmd}
use Rattle.mz_cmd.specs.declared.code.ProofCode.{ProofCode}
use Rattle.mz_cmd.specs.declared.code.ProofCode.TheVariants as code
use Rattle.mz_logic_theory.specs.Tree.{Tree}
use Rattle.mz_machine_theory.specs.Profile.{plain, Item}
use Rattle.mz_machine_theory.specs.MachineState.{RowsBefore, State, Heading}
use Rattle.mz_machine_theory.specs.Premises.{is_conversion}
use Rattle.mz_machine_theory.specs.ProofMachine.{ends_with}
use Rattle.mz_machine_theory.specs.Bodies.{BodyCommand, ends, proves, body_command, match_steps}
use Rattle.mz_machine_theory.specs.Headings.{heading_of}
use Rattle.mz_machine_env.specs.Before.{tables_before}
use Rattle.mz_machine_env.specs.OneCommand.{row_in, steps_in}
use Rattle.mz_layout_tables.specs.declared.rows_so_far.Rows.{Rows}

-- a machine between two commands: whether gaps are let through, the file, the statement whose body runs with the rows
-- before it, the state, whether a gap was left, and how many expressions its store holds
pub record Underway : Type 0 where
  pub gaps : Bool
  pub file : List ℕ
  pub kind : ℕ
  pub row : ℕ
  pub before : Rows
  pub state : State Tree
  pub sorry : Bool
  pub nodes : ℕ

abbrev pub tables_for : Underway → RowsBefore
tables_for u = tables_before u.file u.before

abbrev pub heading_for : Underway → Heading
heading_for u = heading_of u.file u.kind u.row

-- ---- one command

-- the row of a command other than END; one that is not of this body has none
abbrev pub row_by : Bool → RowsBefore → ℕ → State Tree → Option BodyCommand → Result (State Tree) K
row_by gaps tables at st u = row_in (plain gaps) tables at st u

abbrev pub row_of : Bool → RowsBefore → Heading → ℕ → State Tree → Cmd → Result (State Tree) K
row_of gaps tables h at st c = row_by gaps tables at st (body_command (plain gaps) h.kind c.code c.value)

-- it is Sorry, which leaves a gap
abbrev pub is_sorry : Option ProofCode → Bool
is_sorry None = false
is_sorry (Some code.Sorry) = true
is_sorry (Some c) = false

-- it and the unify commands that it executes
abbrev pub steps_by : Bool → RowsBefore → State Tree → Option BodyCommand → ℕ
steps_by gaps tables st u = steps_in (plain gaps) tables st u

abbrev pub steps_for : Bool → RowsBefore → Heading → State Tree → Cmd → ℕ
steps_for gaps tables h st c = steps_by gaps tables st (body_command (plain gaps) h.kind c.code c.value)

-- the END, and the commands of the row's own stream that it executes
abbrev pub end_steps : Bool → RowsBefore → Heading → State Tree → ℕ
end_steps gaps tables h st = suc (match_steps (plain gaps) tables st (ends_with (plain gaps) tables h st))

-- ---- commands that take no memory

abbrev pub is_conversion_at : Option (Item Tree) → Bool
is_conversion_at None = false
is_conversion_at (Some x) = is_conversion x

-- those that only compare, exchange or drop; and a reference to a conversion
abbrev pub takes_none : ProofCode → ℕ → State Tree → Bool
takes_none code.Conv value st = true
takes_none code.Refl value st = true
takes_none code.Symm value st = true
takes_none code.ConvRef value st = true
takes_none code.Sorry value st = true
takes_none code.Ref value st = is_conversion_at (slice_get st.heap value)
takes_none c value st = false

abbrev pub TakesNone : State Tree → Option BodyCommand → Type 0
TakesNone st None = ⊤
TakesNone st (Some ends) = ⊤
TakesNone st (Some (proves c value)) = IsTrue (takes_none c value st)
