-- How far a text has been read.
use Rattle.std.specs.Prelude.{◌≡◌, ℕ, List, [], length}
use Rattle.mz_lex.specs.Lexemes.{Lexeme, LexemesTo}
use Rattle.mz_spec_theory.specs.Statement.{SpecStatement}
use Rattle.mz_spec_theory.specs.State.{State, nothing}
use Rattle.mz_spec_theory.specs.Spec.{Stand}

-- so many good statements stand up to a place, and make this state
abbrev pub StandTo : List ℕ → ℕ → ℕ → State → Type 0
StandTo text count to σ = (ls : List Lexeme) × (ss : List SpecStatement) × LexemesTo text 0 ls to × Stand nothing ss ls σ [] × (length ss ≡ count)
