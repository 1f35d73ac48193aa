-- The files that a command reads and puts, and what came of reading them (this project's own).
use Rattle.std.specs.Prelude.{◌≤◌, ⊤, ℕ, length, List, [], ◌∷◌, Option, Some, None}
use Rattle.mz_tool_engine.specs.declared.inputs.Inputs.{Inputs}
use Rattle.mz_tool_engine.specs.declared.inputs.Inputs.TheVariants as inputs
use Rattle.mz_tool_engine.specs.declared.inputs.Contents.{Contents}
use Rattle.mz_tool_engine.specs.declared.inputs.Contents.TheVariants as contents
use Rattle.mz_tool_engine.specs.declared.output.Output.{Output}
use Rattle.mz_tool_engine.specs.declared.output.Output.TheVariants as outputs
use Rattle.mz_tool_engine.specs.declared.output.Put.{Put}
use Rattle.mz_tool_engine.specs.declared.output.Put.TheVariants as puts
use Rattle.mz_tool_engine.specs.declared.inputs.ReadAll.{ReadAll}
use Rattle.mz_tool_engine.specs.declared.inputs.ReadAll.TheVariants as reads

-- the names, in order
abbrev pub names_of : Inputs → List (List ℕ)
names_of inputs.Nothing = []
names_of (inputs.One name) = name.now ∷ []
names_of (inputs.Two first second) = first.now ∷ second.now ∷ []

-- the bytes of the files, in order
abbrev pub contents_of : Contents → List (List ℕ)
contents_of contents.Nothing = []
contents_of (contents.One bytes) = bytes.items ∷ []
contents_of (contents.Two first second) = first.items ∷ second.items ∷ []

-- the name of the file that is put, where one is
abbrev pub name_of : Output → Option (List ℕ)
name_of outputs.Nothing = None
name_of (outputs.File name) = Some name.now

-- the bytes that are put, where any are
abbrev pub bytes_of : Put → Option (List ℕ)
bytes_of puts.Nothing = None
bytes_of (puts.File bytes) = Some bytes.items

-- each has at most so many bytes
abbrev pub AreWithin : ℕ → List (List ℕ) → Type 0
AreWithin limit [] = ⊤
AreWithin limit (bytes ∷ rest) = (length bytes ≤ limit) × AreWithin limit rest

-- a fact of the bytes that were read
abbrev pub IfRead : ReadAll → (List (List ℕ) → Type 0) → Type 0
IfRead (reads.Contents read) P = P (contents_of read)
IfRead reads.TooLong P = Unit {0}
IfRead reads.Fault P = Unit {0}
IfRead reads.Mem P = Unit {0}

-- a fact, where a call on the folder failed
abbrev pub OnReadFault : ReadAll → Type 0 → Type 0
OnReadFault (reads.Contents read) P = Unit {0}
OnReadFault reads.TooLong P = Unit {0}
OnReadFault reads.Fault P = P
OnReadFault reads.Mem P = Unit {0}
