-- The commands of a body, and the rows that they cite (the .mmb format, its proof commands: a body's commands stand one
-- after another up to the next statement; Thm and ThmSave cite a row of the table of theorems).
use Rattle.std.specs.Prelude.{◌≡◌, ◌⊎◌, ◌+◌, ⊤, ℕ, List, [], ◌∷◌, ◌++◌, drop, Some, Ok}
use Rattle.mz_cmd.specs.declared.command.Cmd.{Cmd}
use Rattle.mz_cmd.specs.declared.code.ProofCode.TheVariants.{Thm, ThmSave}
use Rattle.mz_cmd.specs.Codes.{proof_code}
use Rattle.mz_cmd.specs.Reading.{first_command}
use Rattle.mz_machine_theory.specs.Sound.{IsCitation}

-- these commands stand in the bytes one after another, the first of them at the front
abbrev pub StandThere : List ℕ → List Cmd → Type 0
StandThere bytes [] = ⊤
StandThere bytes (c ∷ cs) = (first_command bytes ≡ Ok c) × StandThere (drop c.len bytes) cs

-- how many bytes they take
abbrev pub length_of : List Cmd → ℕ
length_of [] = 0
length_of (c ∷ cs) = c.len + length_of cs

-- the command is one of those that cite
abbrev pub IsCiting : Cmd → Type 0
IsCiting c = (proof_code c.code ≡ Some Thm) ⊎ (proof_code c.code ≡ Some ThmSave)

-- one of the bytes' commands cites the row
pub record IsCitedIn (bytes : List ℕ) (row : ℕ) : Type 0 where
  pub before : List Cmd
  pub command : Cmd
  pub stand : StandThere bytes (before ++ command ∷ [])
  pub cites : IsCitation command row
