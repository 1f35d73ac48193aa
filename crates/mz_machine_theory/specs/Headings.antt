-- The heading of a row, as the kind of its statement has it (the .mmb format, its list of statements).
use Rattle.std.specs.Prelude.{ℕ, true, false, ◌==◌, if◌then◌else◌, List, drop}
use Rattle.mz_layout_tables.specs.Tables.{term_row}
use Rattle.mz_machine_theory.specs.MachineState.{Kind, is_axiom, is_theorem, is_definition, Heading}
use Rattle.mz_machine_theory.specs.Lists.{definition_of, assertion_of}
use Rattle.mz_machine_theory.specs.FileRows.{term_of_file, thm_of_file}

-- the kind of a statement's body, by the statement's code
abbrev pub kind_at : ℕ → Kind
kind_at code = if code == 0x05 then is_definition else (if code == 0x02 then is_axiom else is_theorem)

-- the heading of a row, as its kind has it
abbrev pub heading_by : List ℕ → ℕ → Kind → Heading
heading_by file row is_axiom = assertion_of true (thm_of_file file row)
heading_by file row is_theorem = assertion_of false (thm_of_file file row)
heading_by file row is_definition = definition_of (term_of_file file row) (drop (term_row file row).stream_at file)

abbrev pub heading_of : List ℕ → (kind row : ℕ) → Heading
heading_of file kind row = heading_by file row (kind_at kind)
