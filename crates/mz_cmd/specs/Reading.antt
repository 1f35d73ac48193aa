-- The command that stands at the front of some bytes, or at a place in them (the .mmb format, its commands and their
-- operands).
use Rattle.std.specs.Prelude.{ℕ, ◌+◌, ◌/◌, ◌%◌, ◌<◌, ◌≤◌, ⊤, IsTrue, List, [], ◌∷◌, length, take, drop, Result, Ok, Err, nat_lt, if◌then◌else◌}
use Rattle.byteorder.specs.Endian.{little_number}
use Rattle.mz_base.specs.Checks.{Checks, demand, ◌>>◌}
use Rattle.mz_cmd.specs.declared.command.Cmd.{Cmd}
use Rattle.mz_cmd.specs.declared.command.CmdFault.{CmdFault}
use Rattle.mz_cmd.specs.declared.command.CmdFault.TheVariants.{Cut, Unknown}
use Rattle.mz_cmd.specs.Codes.{is_known}
use Rattle.mz_cmd.specs.Spelling.{Spells, operand_len}

-- the bytes begin with a spelling of the command, as long as it says
pub record BeginsWith (bytes : List ℕ) (c : Cmd) : Type 0 where
  pub whole : c.len ≤ length bytes
  pub spelled : Spells (take c.len bytes) c.code c.value

-- the command stands at a place
abbrev pub StandsAt : List ℕ → ℕ → Cmd → Type 0
StandsAt bytes at c = BeginsWith (drop at bytes) c

-- the bytes end before the command does that begins them
abbrev pub IsCut : List ℕ → Type 0
IsCut [] = ⊤
IsCut (head ∷ rest) = length rest < operand_len (head / 64)

abbrev pub HasKnownCode : List ℕ → Type 0
HasKnownCode [] = ⊥
HasKnownCode (head ∷ _) = IsTrue (is_known (head % 64))

-- what is asked of bytes that begin with a command
abbrev pub command_checks : List ℕ → Checks CmdFault
command_checks bytes = demand Cut (IsCut bytes → ⊥) >> demand Unknown (HasKnownCode bytes)

-- ---- the same, computed

abbrev pub first_command : List ℕ → Result Cmd CmdFault
first_command [] = Err Cut
first_command (head ∷ rest) =
    if nat_lt (length rest) (operand_len (head / 64)) then Err Cut else
    (if is_known (head % 64) then Ok (record { code = head % 64; value = little_number (operand_len (head / 64)) rest; len = operand_len (head / 64) + 1 }) else Err Unknown)

abbrev pub command_at : List ℕ → ℕ → Result Cmd CmdFault
command_at bytes at = first_command (drop at bytes)
