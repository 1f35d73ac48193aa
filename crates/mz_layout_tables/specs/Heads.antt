-- What is asked of a place of the list of statements before a row's words and the streams are looked at: a command that
-- begins a statement, and a row for it; or the list's end, with no row left. And what an empty body is (the .mmb format,
-- its list of statements).
use Rattle.std.specs.Prelude.{◌≡◌, ◌≤◌, ◌<◌, ◌⊎◌, ⊤, ℕ, ◌+◌, ◌-◌, ◌^◌, true, List, [], ◌∷◌, length, take, drop, Option, Some, None, Result, Ok, Err}
use Rattle.mz_base.specs.Checks.{Checks, nothing, demand, ◌>>◌, AllHold}
use Rattle.mz_cmd.specs.declared.code.StatementCode.{StatementCode}
use Rattle.mz_cmd.specs.declared.code.StatementCode.TheVariants as codes
use Rattle.mz_cmd.specs.declared.rule.K.{K}
use Rattle.mz_cmd.specs.declared.rule.K.TheVariants as rules
use Rattle.mz_cmd.specs.declared.statement.StmtAt.{StmtAt}
use Rattle.mz_cmd.specs.declared.statement.StmtAt.TheVariants as stands
use Rattle.mz_cmd.specs.declared.statement.StmtFault.{StmtFault}
use Rattle.mz_cmd.specs.declared.statement.StmtFault.TheVariants as faults
use Rattle.mz_cmd.specs.Codes.{statement_byte, statement_code}
use Rattle.mz_cmd.specs.StatementList.{statement_at}
use Rattle.mz_layout_tables.specs.Tables.{sort_count, term_count, thm_count, term_row}
use Rattle.mz_layout_tables.specs.declared.rows_so_far.Rows.{Rows}
use Rattle.mz_layout_tables.specs.declared.head.Head.{Head}
use Rattle.mz_layout_tables.specs.declared.head.HeadOrEnd.{HeadOrEnd}
use Rattle.mz_layout_tables.specs.declared.head.HeadOrEnd.TheVariants as there

-- ---- rows: the statements of a kind take the rows of its table in order

-- the row that a statement with this code takes, after these
abbrev pub next_row : Rows → StatementCode → ℕ
next_row rows codes.Sort = rows.sorts
next_row rows codes.Term = rows.terms
next_row rows codes.LocalDefinition = rows.terms
next_row rows k = rows.thms

-- how many rows its table has
abbrev pub row_count : List ℕ → StatementCode → ℕ
row_count file codes.Sort = sort_count file
row_count file codes.Term = term_count file
row_count file codes.LocalDefinition = term_count file
row_count file k = thm_count file

-- the rows taken, its own among them
abbrev pub rows_after : Rows → StatementCode → Rows
rows_after rows codes.Sort = record rows { sorts = rows.sorts + 1 }
rows_after rows codes.Term = record rows { terms = rows.terms + 1 }
rows_after rows codes.LocalDefinition = record rows { terms = rows.terms + 1 }
rows_after rows k = record rows { thms = rows.thms + 1 }

-- each row of the tables has had its statement
pub record AllTaken (file : List ℕ) (rows : Rows) : Type 0 where
  pub sorts_taken : rows.sorts ≡ sort_count file
  pub terms_taken : rows.terms ≡ term_count file
  pub thms_taken : rows.thms ≡ thm_count file

-- ---- bodies

-- a body's bytes, from its first place to the place after it
abbrev pub body_bytes : List ℕ → ℕ → ℕ → List ℕ
body_bytes file body next = take (next - body) (drop body file)

-- nothing stands in the body, or one byte 00
abbrev pub IsEmptyBody : List ℕ → Type 0
IsEmptyBody bytes = (bytes ≡ []) ⊎ (bytes ≡ 0 ∷ [])

-- ---- what is asked, in order

-- there is no command, or it begins no statement, or its distance leads into itself or past the file's end
abbrev pub rule_of : StmtFault → K
rule_of faults.Command = rules.Command
rule_of faults.Kind = rules.StatementKind
rule_of faults.Length = rules.StatementLength

-- a local definition takes the row of a definition, another term any row of the terms
abbrev pub suits_checks : List ℕ → Rows → ℕ → StatementCode → Checks (ℕ × K)
suits_checks file rows at codes.LocalDefinition = demand (at, rules.StatementKind) ((term_row file rows.terms).words.has_body ≡ true)
suits_checks file rows at codes.Term = demand (at, rules.StatementKind) ⊤
suits_checks file rows at k = nothing

-- of a statement with this code: a row is left, and suits it
abbrev pub row_checks : List ℕ → Rows → ℕ → StatementCode → Checks (ℕ × K)
row_checks file rows at code = demand (at, rules.NoRow) (next_row rows code < row_count file code) >> suits_checks file rows at code

abbrev pub kind_checks : List ℕ → Rows → ℕ → Option StatementCode → Checks (ℕ × K)
kind_checks file rows at None = demand (at, rules.StatementKind) ⊥
kind_checks file rows at (Some code) = row_checks file rows at code

abbrev pub end_checks : List ℕ → Rows → ℕ → Checks (ℕ × K)
end_checks file rows at = demand (at, rules.RowsLeft) (AllTaken file rows)

abbrev pub checks_of : List ℕ → Rows → ℕ → Result StmtAt StmtFault → Checks (ℕ × K)
checks_of file rows at (Err fault) = demand (at, rule_of fault) ⊥
checks_of file rows at (Ok stands.End) = end_checks file rows at
checks_of file rows at (Ok (stands.Head kind body next)) = kind_checks file rows at (statement_code kind)

-- of the place, after statements that have taken these rows
abbrev pub head_checks : List ℕ → Rows → ℕ → Checks (ℕ × K)
head_checks file rows at = checks_of file rows at (statement_at file at)

-- of the body of a sort or a plain term
abbrev pub empty_checks : List ℕ → ℕ → ℕ → ℕ → Checks (ℕ × K)
empty_checks file at body next = demand (at, rules.StatementLength) (IsEmptyBody (body_bytes file body next))

-- ---- what stands there

-- the statement's first command stands at its place
abbrev pub IsHead : List ℕ → Head → Type 0
IsHead file head = statement_at file head.at ≡ Ok (stands.Head (statement_byte head.code) head.body head.next)

-- which is this one
pub record IsHeadAt (file : List ℕ) (at : ℕ) (head : Head) : Type 0 where
  pub stands : IsHead file head
  pub at_is : head.at ≡ at

-- the next row of its kind is left for it, and suits it; its body follows its command, of two bytes at least, and the
-- next statement its body
pub record IsNextHead (file : List ℕ) (rows : Rows) (at : ℕ) (head : Head) : Type 0 where
  pub head_is : IsHeadAt file at head
  pub row : next_row rows head.code < row_count file head.code
  pub suits : AllHold (suits_checks file rows at head.code)
  pub fits : next_row rows head.code + 1 < 2 ^ 32
  pub body_after : head.at + 2 ≤ head.body
  pub next_after : head.body ≤ head.next
  pub within : head.next ≤ length file

-- a statement, where a row is left for it, or the end, where none is left
abbrev pub StandsAt : List ℕ → Rows → ℕ → HeadOrEnd → Type 0
StandsAt file rows at there.End = (statement_at file at ≡ Ok stands.End) × AllTaken file rows
StandsAt file rows at (there.Statement head) = IsNextHead file rows at head
