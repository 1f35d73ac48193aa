-- How far a checker has come, and what it answers.
use Rattle.std.specs.Prelude.{◌≡◌, ◌≤◌, ◌⊎◌, ℕ, ◌+◌, ◌-◌, ◌*◌, ◌&&◌, Bool, true, false, List, [], ◌∷◌, ◌++◌, length, if◌then◌else◌, MatchResult, Result, Ok, Err}
use Rattle.mz_cmd.specs.declared.code.StatementCode.{StatementCode}
use Rattle.mz_cmd.specs.declared.code.StatementCode.TheVariants as codes
use Rattle.mz_cmd.specs.declared.rule.K.{K}
use Rattle.mz_cmd.specs.Codes.{statement_byte}
use Rattle.mz_logic_theory.specs.Declaration.{Declaration, sort_decl, term_decl, assertion_decl, sorts, terms, assertions}
use Rattle.mz_logic_theory.specs.LegalLists.{Statement}
use Rattle.mz_layout_tables.specs.Tables.{list_at, sort_count, term_count, thm_count}
use Rattle.mz_layout_tables.specs.Layout.{IsBinary}
use Rattle.mz_layout_tables.specs.Heads.{IsHeadAt, body_bytes, next_row}
use Rattle.mz_layout_tables.specs.declared.head.Head.{Head}
use Rattle.mz_layout_tables.specs.declared.rows_so_far.Rows.{Rows}
use Rattle.mz_machine_theory.specs.Headings.{heading_of}
use Rattle.mz_machine_env.specs.Before.{taken_before}
use Rattle.mz_binary_theory.specs.FileRun.{Found, list_ends, stands_alone, has_body, after_kind, find_at, found_steps, list_steps}
use Rattle.mz_binary_theory.specs.declared.statement.Statement.{Statement as Reported}
use Rattle.mz_binary.specs.declared.statement.Found.{Found as Seen}
use Rattle.mz_binary.specs.declared.statement.Found.TheVariants as seen
use Rattle.mz_machine_theory.specs.Sound.{HasGap}
use Rattle.mz_binary_theory.specs.Chains.{GoodTo, IsListEnd}
use Rattle.mz_binary_theory.specs.Gapped.{AreMarks, CitesMarked}
use Rattle.mz_binary_theory.specs.Standards.{Standard, lets_gaps}

-- what env declares has taken these rows
pub record CountsRows (rows : Rows) (env : List Declaration) : Type 0 where
  pub sorts_are : rows.sorts ≡ length (sorts env)
  pub terms_are : rows.terms ≡ length (terms env)
  pub thms_are : rows.thms ≡ length (assertions env)

-- ---- what is found at a place

-- the code of the kind without the visibility
abbrev pub kind_byte : StatementCode → ℕ
kind_byte codes.LocalDefinition = 0x05
kind_byte codes.LocalTheorem = 0x06
kind_byte k = statement_byte k

abbrev pub is_local_kind : StatementCode → Bool
is_local_kind codes.LocalDefinition = true
is_local_kind codes.LocalTheorem = true
is_local_kind k = false

abbrev pub is_theorem_kind : StatementCode → Bool
is_theorem_kind codes.Theorem = true
is_theorem_kind codes.LocalTheorem = true
is_theorem_kind k = false

-- an axiom or a theorem
abbrev pub is_assertion_kind : StatementCode → Bool
is_assertion_kind codes.Axiom = true
is_assertion_kind k = is_theorem_kind k

abbrev pub is_axiom_kind : StatementCode → Bool
is_axiom_kind codes.Axiom = true
is_axiom_kind k = false

abbrev pub IsTermKind : StatementCode → Type 0
IsTermKind k = (k ≡ codes.Term) ⊎ (k ≡ codes.LocalDefinition)

abbrev pub IsAssertionKind : StatementCode → Type 0
IsAssertionKind k = (k ≡ codes.Axiom) ⊎ ((k ≡ codes.Theorem) ⊎ (k ≡ codes.LocalTheorem))

-- what was seen is found after so many rows
abbrev pub found_of : List ℕ → Rows → Seen → Found
found_of file rows seen.End = list_ends
found_of file rows (seen.Alone head) = stands_alone (after_kind file (taken_before file rows) head.code) head.next
found_of file rows (seen.WithBody head) =
    has_body (after_kind file (taken_before file rows) head.code) head.next (heading_of file (kind_byte head.code) (next_row rows head.code)) head.body (body_bytes file head.body head.next)

abbrev pub Finds : List ℕ → Rows → Result Found (ℕ × K) → Result Seen (ℕ × K) → Type 0
Finds file rows there result = MatchResult result (λ found. there ≡ Ok (found_of file rows found)) (λ fault. there ≡ Err fault)

-- of this statement
abbrev pub IsOf : Head → Seen → Type 0
IsOf head seen.End = ⊥
IsOf head (seen.Alone other) = other ≡ head
IsOf head (seen.WithBody other) = other ≡ head

-- and stands at the place
abbrev pub StandsAt : List ℕ → ℕ → Seen → Type 0
StandsAt file at seen.End = IsListEnd file at
StandsAt file at (seen.Alone head) = IsHeadAt file at head
StandsAt file at (seen.WithBody head) = IsHeadAt file at head

-- ---- how far the checker has come

-- the file, the place of the next statement, how many stand before it, the rows that these have taken, and in a draft
-- the flags of the gapped theorems
pub record Place : Type 0 where
  pub file : List ℕ
  pub at : ℕ
  pub passed : ℕ
  pub rows : Rows
  pub marks : List Bool

-- and to what bodies are held
pub record Progress : Type 0 where
  pub standard : Standard
  pub file : List ℕ
  pub at : ℕ
  pub passed : ℕ
  pub rows : Rows
  pub marks : List Bool

abbrev pub under : Standard → Place → Progress
under standard p = record { standard = standard; file = p.file; at = p.at; passed = p.passed; rows = p.rows; marks = p.marks }

-- these are the statements before, all good, and they declare env
pub record HasPassed (p : Progress) (ss : List Statement) (env : List Declaration) : Type 0 where
  pub statements : GoodTo p.standard p.file [] (list_at p.file) ss env p.at
  pub many : p.passed ≡ length ss
  pub rows : CountsRows p.rows env
  pub marks : lets_gaps p.standard ≡ true → AreMarks p.file ss p.marks

-- where a checker can be
pub record IsReached (p : Progress) : Type 0 where
  pub binary : IsBinary p.file
  pub within : p.at ≤ length p.file
  pub sorts_within : p.rows.sorts ≤ sort_count p.file
  pub terms_within : p.rows.terms ≤ term_count p.file
  pub thms_within : p.rows.thms ≤ thm_count p.file
  pub many : p.passed ≡ p.rows.sorts + p.rows.terms + p.rows.thms
  pub before : (ss : List Statement) × (env : List Declaration) × HasPassed p ss env

-- ---- gaps

-- the next statement is a theorem of a draft, and its body leaves a gap or cites a tainted theorem
abbrev pub RestsOnGap : Progress → Head → Type 0
RestsOnGap p head = (lets_gaps p.standard ≡ true) × (is_theorem_kind head.code ≡ true)
    × (HasGap (body_bytes p.file head.body head.next) ⊎ CitesMarked (body_bytes p.file head.body head.next) p.marks)

-- the flags with one more, where the statement is an axiom or theorem of a draft
abbrev pub marks_past : Bool → StatementCode → Bool → List Bool → List Bool
marks_past gaps k gap marks = if gaps && is_assertion_kind k then marks ++ gap ∷ [] else marks

-- ---- the commands executed

-- in the body of the next statement, up to the rule that fails
abbrev pub next_steps : Progress → ℕ
next_steps p = found_steps p.standard p.file (taken_before p.file p.rows) (find_at p.file (taken_before p.file p.rows) p.at)

-- in all that is left of the list, up to its first fault
abbrev pub steps_left : Progress → ℕ
steps_left p = list_steps p.standard p.file (length p.file + 1) (taken_before p.file p.rows) p.at

-- the most that can be: a command of a body executes itself and at most one of a stream a byte of the file
abbrev pub most_left : Progress → ℕ
most_left p = (length p.file - p.at) * (length p.file + 1)

-- ---- what is said of a statement

abbrev pub kind_code : Declaration → ℕ
kind_code (sort_decl _) = 0x04
kind_code (term_decl _) = 0x05
kind_code (assertion_decl a) = if a.is_axiom then 0x02 else 0x06

-- the row of a declaration after env
abbrev pub row_after : List Declaration → Declaration → ℕ
row_after env (sort_decl _) = length (sorts env)
row_after env (term_decl _) = length (terms env)
row_after env (assertion_decl _) = length (assertions env)

-- the n-th statement, at a place after env
pub record Tells (told : Reported) (n at : ℕ) (env : List Declaration) (s : Statement) : Type 0 where
  pub number : told.number ≡ n
  pub place : told.at ≡ at
  pub kind : told.kind ≡ kind_code s.decl
  pub row : told.row ≡ row_after env s.decl
  pub mark : told.local ≡ s.is_local
