-- The definitions, computed on small examples.
use Rattle.std.proofs.Common.{◌≡◌, ℕ, List, [], ◌∷◌, Result, Ok, Err, refl}
use Rattle.mz_cmd.specs.declared.command.Cmd.{Cmd}
use Rattle.mz_cmd.specs.declared.command.CmdFault.{CmdFault}
use Rattle.mz_cmd.specs.declared.command.CmdFault.TheVariants.{Cut, Unknown}
use Rattle.mz_cmd.specs.declared.statement.StmtAt.{StmtAt}
use Rattle.mz_cmd.specs.declared.statement.StmtAt.TheVariants.{End, Head}
use Rattle.mz_cmd.specs.declared.statement.StmtFault.{StmtFault}
use Rattle.mz_cmd.specs.declared.statement.StmtFault.TheVariants.{Command, Kind, Length}
use Rattle.mz_cmd.specs.Spelling.{shortest}
use Rattle.mz_cmd.specs.Reading.{command_at}
use Rattle.mz_cmd.specs.StatementList.{statement_at}

abbrev read : ℕ → ℕ → ℕ → Result Cmd CmdFault
read code value len = Ok (record { code = code; value = value; len = len })

abbrev cut : Result Cmd CmdFault
cut = Err Cut

abbrev unknown : Result Cmd CmdFault
unknown = Err Unknown

-- one sort's statement and the list's end, in each spelling of the statement
abbrev short : List ℕ
short = 0x44 ∷ 2 ∷ 0 ∷ []

abbrev middle : List ℕ
middle = 0x84 ∷ 3 ∷ 0 ∷ 0 ∷ []

abbrev long : List ℕ
long = 0xC4 ∷ 5 ∷ 0 ∷ 0 ∷ 0 ∷ 0 ∷ []

read_short : command_at short 0 ≡ read 4 2 2
read_short = refl

read_middle : command_at middle 0 ≡ read 4 3 3
read_middle = refl

read_long : command_at long 0 ≡ read 4 5 5
read_long = refl

read_end : command_at long 5 ≡ read 0 0 1
read_end = refl

read_end_with_operand : command_at (0x40 ∷ 5 ∷ []) 0 ≡ read 0 5 2
read_end_with_operand = refl

read_cut : command_at (0x84 ∷ 3 ∷ []) 0 ≡ cut
read_cut = refl

read_nothing : command_at short 3 ≡ cut
read_nothing = refl

read_unknown : command_at (0x41 ∷ 0 ∷ []) 0 ≡ unknown
read_unknown = refl

abbrev ended : Result StmtAt StmtFault
ended = Ok End

abbrev fails : StmtFault → Result StmtAt StmtFault
fails fault = Err fault

head_short : statement_at short 0 ≡ Ok (Head 4 2 2)
head_short = refl

head_middle : statement_at middle 0 ≡ Ok (Head 4 3 3)
head_middle = refl

head_long : statement_at long 0 ≡ Ok (Head 4 5 5)
head_long = refl

list_ends : statement_at short 2 ≡ ended
list_ends = refl

no_command : statement_at (0x44 ∷ []) 0 ≡ fails Command
no_command = refl

no_statement : statement_at (0x4A ∷ 0 ∷ []) 0 ≡ fails Kind
no_statement = refl

too_near : statement_at (0x44 ∷ 0 ∷ 0 ∷ []) 0 ≡ fails Length
too_near = refl

too_far : statement_at (0x44 ∷ 4 ∷ 0 ∷ []) 0 ≡ fails Length
too_far = refl

written_short : shortest 4 255 ≡ 0x44 ∷ 255 ∷ []
written_short = refl

written_middle : shortest 4 256 ≡ 0x84 ∷ 0 ∷ 1 ∷ []
written_middle = refl
