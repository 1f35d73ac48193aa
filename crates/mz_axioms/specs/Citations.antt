-- The first citation of a body from one of its places on (the .mmb format, its list of statements: a body ends where the
-- next statement begins).
use Rattle.std.specs.Prelude.{◌≡◌, ◌≤◌, ◌+◌, ℕ, List, [], ◌∷◌, ◌++◌, All, Option, Some, None, Ok}
use Rattle.mz_cmd.specs.declared.command.Cmd.{Cmd}
use Rattle.mz_cmd.specs.declared.statement.StmtAt.TheVariants.{Head}
use Rattle.mz_cmd.specs.StatementList.{statement_at}
use Rattle.mz_machine_theory.specs.Sound.{IsCitation}
use Rattle.mz_layout_tables.specs.Heads.{body_bytes}
use Rattle.mz_axioms.specs.Commands.{StandThere, length_of, IsCiting, IsCitedIn}
use Rattle.mz_binary_theory.specs.Gapped.{place_after}

-- Of the commands of bytes that begin at a place, the first that cites: it cites the row, the next command's place is this
-- one, and no command before it cites.
pub record IsFirstCitation (bytes : List ℕ) (at row next : ℕ) : Type 0 where
  pub before : List Cmd
  pub command : Cmd
  pub stand : StandThere bytes (before ++ command ∷ [])
  pub others : All (λ c. IsCiting c → ⊥) before
  pub cites : IsCitation command row
  pub ends : next ≡ at + length_of (before ++ command ∷ [])

-- none of the bytes' commands cites
abbrev pub CiteNothing : List ℕ → Type 0
CiteNothing bytes = (row : ℕ) → IsCitedIn bytes row → ⊥

-- the first citation, if there is one
abbrev pub IsFirstIn : ℕ → List ℕ → Option (ℕ × ℕ) → Type 0
IsFirstIn at bytes None = CiteNothing bytes
IsFirstIn at bytes (Some (row, next)) = IsFirstCitation bytes at row next

-- the bytes of the body of the statement that stands at a place, from a place of the body on
abbrev pub rest_of_body : List ℕ → ℕ → ℕ → List ℕ
rest_of_body file at pos = body_bytes file pos (place_after (statement_at file at))

-- the place is one of the body of the statement that stands at the other, or its end
pub record IsInBody (file : List ℕ) (at pos : ℕ) : Type 0 where
  pub code : ℕ
  pub body : ℕ
  pub next : ℕ
  pub stands : statement_at file at ≡ Ok (Head code body next)
  pub from : body ≤ pos
  pub to : pos ≤ next
