-- What stands where in a file that is written in the normal layout (documents of the .mmb format,
-- on the header, the tables and the proof stream).
use Rattle.std.specs.Prelude.{◌≡◌, ℕ, ◌+◌, ◌^◌, ◌<◌, ◌≤◌, IsTrue, List, [], ◌∷◌, ◌++◌, length, take, drop, Ok}
use Rattle.std.specs.List.{All}
use Rattle.mz_cmd.specs.Codes.{begins_statement}
use Rattle.mz_cmd.specs.Spelling.{shortest}
use Rattle.mz_cmd.specs.StatementList.{statement_at}
use Rattle.mz_cmd.specs.declared.statement.StmtAt.TheVariants.{End, Head}
use Rattle.mz_layout_tables.specs.Normal.{Row, Written, Parts, blocks, distance, file_length}

-- these bytes stand in the file from a place on
pub record Stands (file : List ℕ) (at : ℕ) (bytes : List ℕ) : Type 0 where
  pub within : at + length bytes ≤ length file
  pub rest : List ℕ
  pub from_there : drop at file ≡ bytes ++ rest

-- ---- what the format has room for

-- a row whose record has room for its numbers, of so many words more than parameters
pub record HasRoom (further : ℕ) (r : Row) : Type 0 where
  pub few_params : r.params < 2 ^ 16
  pub count : length r.words ≡ r.params + further
  pub words : All (λ w. w.0 < 2 ^ 64) r.words

-- parts whose bytes, records and words have room for what they hold, and whose statements have a statement's code
pub record HaveRoom (p : Parts) : Type 0 where
  pub mods : All (λ m. m < 16) p.sorts
  pub terms : All (HasRoom 1) p.terms
  pub thms : All (HasRoom 0) p.thms
  pub codes : All (λ s. IsTrue (begins_statement s.code)) p.statements

-- parts that make a binary
pub record Fit (p : Parts) : Type 0 where
  pub room : HaveRoom p
  pub few_sorts : length p.sorts ≤ 128
  pub short : file_length p < 2 ^ 32

-- ---- places

-- where the block of the i-th of some rows stands, of which the first stands at a place
abbrev pub block_place : ℕ → List Row → ℕ → ℕ
block_place at rs i = at + length (blocks (take i rs))

-- ---- the statements: each stands at its place, its body after its command, and the list ends after the last

abbrev pub body_place : ℕ → Written → ℕ
body_place at s = at + length (shortest s.code (distance (length s.body)))

abbrev pub next_place : ℕ → Written → ℕ
next_place at s = body_place at s + length s.body

abbrev pub AreListed : List ℕ → ℕ → List Written → Type 0
AreListed file at [] = statement_at file at ≡ Ok End
AreListed file at (s ∷ ss) =
    (statement_at file at ≡ Ok (Head s.code (body_place at s) (next_place at s)))
    × Stands file (body_place at s) s.body
    × AreListed file (next_place at s) ss
