-- What the parts of the listing answer.
use Rattle.std.specs.Prelude.{◌≡◌, ◌≤◌, ⊤, ℕ, ◌+◌, ◌*◌, ◌++◌, List, length, Result, Ok, Err}
use Rattle.mz_base.specs.Checks.{AllHold, FailsFirst}
use Rattle.mz_cmd.specs.declared.command.Cmd.{Cmd}
use Rattle.mz_cmd.specs.declared.rule.Refusal.{Refusal}
use Rattle.mz_layout_tables.specs.declared.head.Head.{Head}
use Rattle.mz_show.specs.declared.place.Place.{Place}
use Rattle.mz_show.specs.declared.statement.Next.{Next}
use Rattle.mz_show.specs.declared.statement.Next.TheVariants as next
use Rattle.mz_show.specs.declared.stream.Stream.{Stream}
use Rattle.mz_show.specs.declared.stop.Stop.{Stop}
use Rattle.mz_show.specs.declared.stop.Stop.TheVariants.{Refused, Mem}
use Rattle.mz_show.specs.Tokens.{texts}
use Rattle.mz_show.specs.Streams.{IsLongest, command_line}
use Rattle.mz_show.specs.Statements.{Statement, Stands, after, part_checks, statement_checks, streams_text, statement_text, has_streams}
use Rattle.mz_show.specs.Listing.{EndsAt, StopsAt}

-- the lines of all commands of a stream between two places are appended
pub record AppendsRun (stream : Stream) (bytes : List ℕ) (from to : ℕ) (old new : List ℕ) : Type 0 where
  pub commands : List Cmd
  pub longest : IsLongest stream bytes from (record { commands = commands; to = to })
  pub lines : new ≡ old ++ texts (command_line stream) commands

-- a fact of the refusal, where there is one
abbrev pub IfRefused : Stop → (Refusal → Type 0) → Type 0
IfRefused (Refused refusal) P = P refusal
IfRefused Mem P = ⊤

-- the statement that stands at a place with this head
pub record IsThere (file : List ℕ) (place : Place) (head : Head) (s : Statement) : Type 0 where
  pub stands : Stands file place s
  pub head_is : s.head ≡ head

-- the lines of the streams of a statement are appended, or the first rule fails that is asked of them
abbrev pub TellsStreams : List ℕ → Place → Head → List ℕ → List ℕ → Result (Unit {0}) Stop → Type 0
TellsStreams file place head old new (Ok _) =
    (s : Statement) × IsThere file place head s × AllHold (part_checks (has_streams file place head.code) file place s)
    × (new ≡ old ++ streams_text (has_streams file place head.code) s)
TellsStreams file place head old new (Err stop) = IfRefused stop (λ refusal.
    (s : Statement) × IsThere file place head s × FailsFirst (part_checks (has_streams file place head.code) file place s) refusal)

-- the same of all lines of the statement
abbrev pub TellsStatement : List ℕ → Place → Head → List ℕ → List ℕ → Result (Unit {0}) Stop → Type 0
TellsStatement file place head old new (Ok _) =
    (s : Statement) × IsThere file place head s × AllHold (statement_checks file place s)
    × (new ≡ old ++ statement_text file place s)
TellsStatement file place head old new (Err stop) = IfRefused stop (λ refusal.
    (s : Statement) × IsThere file place head s × FailsFirst (statement_checks file place s) refusal)

-- what stands at a place of the list: a statement, whose lines are appended, with the place after it; or the list's end
abbrev pub IsNext : List ℕ → Place → List ℕ → List ℕ → Next → Type 0
IsNext file place old new (next.Statement to) =
    (s : Statement) × Stands file place s × AllHold (statement_checks file place s)
    × (new ≡ old ++ statement_text file place s) × (to ≡ after place s)
IsNext file place old new next.End = EndsAt file place
IsNext file place old new (next.Refused refusal) = StopsAt file place refusal
IsNext file place old new next.Mem = ⊤

-- a place within the file, with no more statements before it than the bytes hold, each of at least two
pub record IsWithin (file : List ℕ) (place : Place) : Type 0 where
  pub at : place.at ≤ length file
  pub number : 2 * place.number ≤ place.at + 2
