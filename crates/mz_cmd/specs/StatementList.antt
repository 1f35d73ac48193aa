-- What stands at a place of the list of statements (the .mmb format, its list of statements): a command whose operand
-- is the distance to the next statement, or the end.
use Rattle.std.specs.Prelude.{◌≡◌, ℕ, ◌+◌, ◌≤◌, ◌||◌, IsTrue, List, length, ◌==◌, nat_lt, Result, Ok, Err, if◌then◌else◌}
use Rattle.mz_base.specs.Checks.{Checks, demand, ◌>>◌}
use Rattle.mz_cmd.specs.declared.command.Cmd.{Cmd}
use Rattle.mz_cmd.specs.declared.command.CmdFault.{CmdFault}
use Rattle.mz_cmd.specs.declared.statement.StmtAt.{StmtAt}
use Rattle.mz_cmd.specs.declared.statement.StmtAt.TheVariants.{End, Head}
use Rattle.mz_cmd.specs.declared.statement.StmtFault.{StmtFault}
use Rattle.mz_cmd.specs.declared.statement.StmtFault.TheVariants.{Command, Kind, Length}
use Rattle.mz_cmd.specs.Codes.{begins_statement}
use Rattle.mz_cmd.specs.Reading.{StandsAt, command_at}

-- the list ends with this command, whatever its operand
abbrev pub IsEnd : Cmd → Type 0
IsEnd c = c.code ≡ 0

-- the distance leads past the command, and not past the end of the bytes
abbrev pub LeadsOn : List ℕ → ℕ → Cmd → Type 0
LeadsOn bytes at c = (c.len ≤ c.value) × (at + c.value ≤ length bytes)

-- what is asked of a place of the list, in this order
abbrev pub statement_checks : List ℕ → ℕ → Checks StmtFault
statement_checks bytes at =
    demand Command ((c : Cmd) × StandsAt bytes at c)
    >> demand Kind ((c : Cmd) → StandsAt bytes at c → IsTrue (c.code == 0 || begins_statement c.code))
    >> demand Length ((c : Cmd) → StandsAt bytes at c → (IsEnd c → ⊥) → LeadsOn bytes at c)

-- a statement's first command stands at a place: its kind, and the places of its body and of the next statement
pub record IsHead (bytes : List ℕ) (at kind body next : ℕ) : Type 0 where
  pub command : Cmd
  pub stands : StandsAt bytes at command
  pub statement : IsTrue (begins_statement command.code)
  pub leads_on : LeadsOn bytes at command
  pub kind_is : kind ≡ command.code
  pub body_is : body ≡ at + command.len
  pub next_is : next ≡ at + command.value

abbrev pub IsListedAt : List ℕ → ℕ → StmtAt → Type 0
IsListedAt bytes at End = (c : Cmd) × StandsAt bytes at c × IsEnd c
IsListedAt bytes at (Head kind body next) = IsHead bytes at kind body next

-- ---- the same, computed

abbrev pub statement_of : ℕ → ℕ → Result Cmd CmdFault → Result StmtAt StmtFault
statement_of end at (Err _) = Err Command
statement_of end at (Ok c) =
    if c.code == 0 then Ok End else
    (if begins_statement c.code then
    (if nat_lt c.value c.len || nat_lt end (at + c.value) then Err Length else Ok (Head c.code (at + c.len) (at + c.value)))
    else Err Kind)

abbrev pub statement_at : List ℕ → ℕ → Result StmtAt StmtFault
statement_at bytes at = statement_of (length bytes) at (command_at bytes at)
