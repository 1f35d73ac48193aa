-- What the parts of the assembler answer.
use Rattle.std.specs.Prelude.{◌≡◌, ◌≤◌, ◌<◌, ◌^◌, ⊤, ℕ, List, length, Result, Ok, Err}
use Rattle.mz_layout_tables.specs.Normal.{Parts, file_length, file_of}
use Rattle.mz_asm.specs.declared.assembled.Assembled.{Assembled}
use Rattle.mz_asm.specs.declared.assembled.Assembled.TheVariants as answers
use Rattle.mz_asm.specs.declared.stop.Stop.{Stop}
use Rattle.mz_asm.specs.declared.stop.Stop.TheVariants as stops
use Rattle.mz_asm.specs.declared.stop.Fault.{Fault}
use Rattle.mz_asm.specs.declared.stop.Fault.TheVariants as faults
use Rattle.mz_asm.specs.Assembling.{Says, Breaks}
use Rattle.mz_asm.specs.Making.{Made}
use Rattle.mz_asm.specs.Statements.{Statement, parts_of}

-- a fault, reported of a line
abbrev pub told_at : ℕ → Fault → Stop
told_at line (faults.Rule rule) = stops.Refused line rule
told_at line faults.Mem = stops.Mem

-- the parts of what the text says, or the rule that it breaks
abbrev pub ReadsLines : List ℕ → Made → Result (Unit {0}) Stop → Type 0
ReadsLines text new (Ok _) = (ss : List Statement) × Says text ss × (new.parts ≡ parts_of ss) × (length new.parts.sorts ≤ 128)
ReadsLines text new (Err (stops.Refused line rule)) = Breaks text line rule
ReadsLines text new (Err stops.Mem) = ⊤

-- the file of the parts, or its length where it is too long
abbrev pub WritesOut : Parts → Assembled → Type 0
WritesOut parts (answers.Bytes bytes) = (bytes.items ≡ file_of parts) × (file_length parts < 2 ^ 32)
WritesOut parts (answers.Refused line rule) = ⊥
WritesOut parts (answers.Limit count) = (count ≡ file_length parts) × (2 ^ 32 ≤ count)
WritesOut parts answers.Mem = ⊤
