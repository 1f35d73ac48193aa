-- What holds of the state behind good statements, and of the lexemes of a text.
use Rattle.std.specs.Prelude.{◌≡◌, ◌<◌, ◌+◌, ◌^◌, ⊤, ℕ, List, [], ◌∷◌, length, Contains, IsTrue}
use Rattle.mz_lex.specs.Kinds.{is_of_kind}
use Rattle.mz_lex.specs.Lexemes.{Lexeme}
use Rattle.mz_logic_theory.specs.Declaration.{sorts, signatures}
use Rattle.mz_logic_theory.specs.Legality.{IsLegalEnv}
use Rattle.mz_math_theory.specs.declared.coercion.Coercion.{Coercion}
use Rattle.mz_math_theory.specs.Notation.{TermName}
use Rattle.mz_math_theory.specs.Forms.{IsCoercion}
use Rattle.mz_math_theory.specs.Kept.{IsTable}
use Rattle.mz_spec_theory.specs.Statement.{SpecStatement, Spells}
use Rattle.mz_spec_theory.specs.SpecCode.{EndsSmall}
use Rattle.mz_spec_theory.specs.State.{State}

-- names of terms, with their numbers from one on
abbrev pub numbered : ℕ → List (List ℕ) → List TermName
numbered i [] = []
numbered i (n ∷ ns) = record { name = n; term = i } ∷ numbered (i + 1) ns

-- each space has as many names as there are declarations of its kind, each declaration has a name span, math
-- strings know the terms by their names, and coercions lead from the sort of their parameter to that of
-- their result
pub record IsKept (σ : State) : Type 0 where
  pub sorts : length σ.sort_names ≡ length (sorts σ.env)
  pub terms : length σ.term_names ≡ length (signatures σ.env)
  pub spans : length σ.spans ≡ length σ.env
  pub legal : IsLegalEnv σ.env
  pub table : IsTable σ.table
  pub names : σ.table.names ≡ numbered 0 σ.term_names
  pub coercions : (c : Coercion) → Contains σ.table.coercions c → IsCoercion (signatures σ.env) c

-- each lexeme is of its kind, has a byte, and ends before 2 ^ 32
abbrev pub AreOfText : List Lexeme → Type 0
AreOfText [] = ⊤
AreOfText (l ∷ ls) = IsTrue (is_of_kind l.kind l.text) × EndsSmall l × AreOfText ls

-- how many bytes lexemes have together
abbrev pub bytes_of : List Lexeme → ℕ
bytes_of [] = 0
bytes_of (l ∷ ls) = length l.text + bytes_of ls

-- such lexemes, which have fewer than 2 ^ 32 bytes together, spell the statement
abbrev pub IsSpelled : SpecStatement → Type 0
IsSpelled s = (ls : List Lexeme) × Spells s ls × AreOfText ls × (bytes_of ls < 2 ^ 32)
