-- How many bytes the literals of a notation have, and what a fault of the table makes of a statement.
use Rattle.std.specs.Prelude.{ℕ, ◌+◌, List, [], ◌∷◌, length}
use Rattle.mz_math_theory.specs.declared.fault.NoteFault.{NoteFault}
use Rattle.mz_math_theory.specs.declared.fault.NoteFault.TheVariants as faults
use Rattle.mz_spec_theory.specs.declared.refusal.Halt.{Halt}
use Rattle.mz_spec_theory.specs.declared.refusal.Halt.TheVariants as halts
use Rattle.mz_spec_theory.specs.Statement.{LiteralText, constant_literal, name_literal}
use Rattle.mz_spec_theory.specs.Formulas.{inner}
use Rattle.mz_spec_theory.specs.Forms.{at_statement}

-- how many bytes a literal has, and literals together
abbrev pub literal_size : LiteralText → ℕ
literal_size (constant_literal c level) = length (inner c)
literal_size (name_literal n) = length n.text

abbrev pub literals_size : List LiteralText → ℕ
literals_size [] = 0
literals_size (l ∷ ls) = literal_size l + literals_size ls

-- a fault of the table, reported of the statement at a place
abbrev pub halt_of : ℕ → NoteFault → Halt
halt_of place faults.Mem = halts.Mem
halt_of place faults.Form = halts.Fault (at_statement place faults.Form)
halt_of place faults.Clash = halts.Fault (at_statement place faults.Clash)
halt_of place faults.CoercionClash = halts.Fault (at_statement place faults.CoercionClash)
