-- How many nodes the proof of a body has at the most: what the heap keeps is named again, and never made a second time
-- (this project's own).
use Rattle.std.specs.Prelude.{ℕ, zero, suc, ◌+◌, List, length, drop, Option, Some, None}
use Rattle.mz_cmd.specs.declared.code.ProofCode.{ProofCode}
use Rattle.mz_cmd.specs.declared.code.ProofCode.TheVariants as code
use Rattle.mz_cmd.specs.Codes.{proof_code}
use Rattle.mz_cmd.specs.Reading.{first_command}
use Rattle.mz_machine_theory.specs.Steps.{if_read}

-- The nodes that a command makes, at once or when what it leaves is paid. A reference makes none, and so do those that only
-- cut or keep a conversion; ThmSave makes a citation and its name; any other makes one at the most.
abbrev pub nodes_for : ProofCode → ℕ
nodes_for code.Ref = 0
nodes_for code.ConvRef = 0
nodes_for code.ConvCut = 0
nodes_for code.ConvSave = 0
nodes_for code.ThmSave = 2
nodes_for c = 1

abbrev pub nodes_by : Option ProofCode → ℕ
nodes_by None = 0
nodes_by (Some c) = nodes_for c

-- those of the commands of bytes: n bounds them, of which each takes a byte
unfoldable pub nodes_from : ℕ → List ℕ → ℕ
nodes_from zero bytes = 0
nodes_from (suc n) bytes = if_read (first_command bytes) (λ c. nodes_by (proof_code c.code) + nodes_from n (drop c.len bytes))

-- and of a whole body
abbrev pub nodes_in : List ℕ → ℕ
nodes_in bytes = nodes_from (length bytes) bytes
