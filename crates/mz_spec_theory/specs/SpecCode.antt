-- What the code's formulas stand for, and which lexemes end where the code can count.
use Rattle.std.specs.Prelude.{◌<◌, ◌+◌, ◌^◌, length}
use Rattle.mz_lex.specs.Lexemes.{Lexeme}
use Rattle.mz_spec_theory.specs.StatementCode.{lexeme}
use Rattle.mz_spec_theory.specs.View.{Stated}
use Rattle.mz_spec_theory.specs.declared.stated.Stated.{Stated as StatedRead}

abbrev pub stated : StatedRead → Stated
stated h = record { math = lexeme h.math; times = h.times }

-- the lexeme has a byte, and ends before 2 ^ 32
abbrev pub EndsSmall : Lexeme → Type 0
EndsSmall l = (0 < length l.text) × (l.from + length l.text < 2 ^ 32)
