-- Which texts are listings, of which binaries, and which rule a text breaks (this project's own listing and rules).
use Rattle.std.specs.Prelude.{◌≡◌, ◌≤◌, ◌<◌, ◌^◌, ◌+◌, ◌==◌, ⊤, ℕ, List, [], ◌∷◌, ◌++◌, length}
use Rattle.std.specs.List.{position_or_len, before_first, after_first}
use Rattle.mz_base.specs.Checks.{Checks, demand, ◌>>◌, FailsFirst}
use Rattle.mz_layout_tables.specs.Normal.{file_length, file_of}
use Rattle.mz_show.specs.Listing.{IsListing}
use Rattle.mz_asm.specs.declared.line.Line.{Line}
use Rattle.mz_asm.specs.declared.rows.Rows.{Rows}
use Rattle.mz_asm.specs.declared.rule.A.{A}
use Rattle.mz_asm.specs.declared.rule.A.TheVariants as rules
use Rattle.mz_asm.specs.declared.assembled.Assembled.{Assembled}
use Rattle.mz_asm.specs.declared.assembled.Assembled.TheVariants as answers
use Rattle.mz_asm.specs.Lines.{IsLine}
pub use Rattle.mz_asm.specs.NormalBytes.{IsNormal}
use Rattle.mz_asm.specs.Statements.{Statement, listing_lines, parts_of}
use Rattle.mz_asm.specs.Rows.{no_rows, rows_after, rows_of, IsInRange, TakesRow}

-- ---- the lines of a text

-- where the first newline stands; the number of bytes where there is none
abbrev pub newline_at : List ℕ → ℕ
newline_at text = position_or_len (λ b. b == 10) text

-- the text begins with this line and a newline
abbrev pub BeginsWith : List ℕ → Line → Type 0
BeginsWith text l = (newline_at text < length text) × IsLine (before_first (λ b. b == 10) text) l

-- what stands behind the first newline
abbrev pub behind_line : List ℕ → List ℕ
behind_line text = after_first (λ b. b == 10) text

-- the text is these lines, each with its newline, and a rest
abbrev pub HasLines : List ℕ → List Line → List ℕ → Type 0
HasLines text [] rest = text ≡ rest
HasLines text (l ∷ ls) rest = BeginsWith text l × HasLines (behind_line text) ls rest

-- ---- what is asked of a line

-- some listing begins with these lines
abbrev pub Begins : List Line → Type 0
Begins ls = (ss : List Statement) × (more : List Line) × (listing_lines ss ≡ ls ++ more)

-- numbers and rows of the lines are right, where these rows are taken before them
abbrev pub AreFitting : Rows → List Line → Type 0
AreFitting rows [] = ⊤
AreFitting rows (l ∷ ls) = IsInRange rows l × TakesRow rows l × AreFitting (rows_after rows l) ls

-- what is asked of the line that follows some lines, at which a rest of the text begins
abbrev pub line_checks : List Line → List ℕ → Checks A
line_checks before rest =
    demand rules.Form ((l : Line) × BeginsWith rest l × Begins (before ++ (l ∷ [])))
    >> demand rules.Range ((l : Line) → BeginsWith rest l → IsInRange (rows_of no_rows before) l)
    >> demand rules.Row ((l : Line) → BeginsWith rest l → TakesRow (rows_of no_rows before) l)

-- ---- texts

-- the text is the listing that says these statements
pub record Says (text : List ℕ) (ss : List Statement) : Type 0 where
  pub lines : HasLines text (listing_lines ss) []
  pub fitting : AreFitting no_rows (listing_lines ss)

-- the lines before this one, counted from 1, are right, the text isn't a listing that ends with them, and the rule is the
-- first that the line breaks
pub record Breaks (text : List ℕ) (number : ℕ) (rule : A) : Type 0 where
  pub before : List Line
  pub rest : List ℕ
  pub lines : HasLines text before rest
  pub begins : Begins before
  pub fitting : AreFitting no_rows before
  pub number_is : number ≡ length before + 1
  pub not_whole : (ss : List Statement) → rest ≡ [] → before ≡ listing_lines ss → ⊥
  pub fails : FailsFirst (line_checks before rest) rule

-- ---- binaries

-- the bytes are the binary of the statements that the text says
abbrev pub IsBinaryOf : List ℕ → List ℕ → Type 0
IsBinaryOf text file = (ss : List Statement) × Says text ss × (file ≡ file_of (parts_of ss)) × (file_length (parts_of ss) < 2 ^ 32)

-- ---- the answers

-- the text is a listing, and its binary would be too long
abbrev pub IsTooLong : List ℕ → ℕ → Type 0
IsTooLong text count = (ss : List Statement) × Says text ss × (count ≡ file_length (parts_of ss)) × (2 ^ 32 ≤ count)

-- out of memory says nothing
abbrev pub IsAssembly : List ℕ → Assembled → Type 0
IsAssembly text (answers.Bytes bytes) = IsBinaryOf text bytes.items
IsAssembly text (answers.Refused line rule) = Breaks text line rule
IsAssembly text (answers.Limit count) = IsTooLong text count
IsAssembly text answers.Mem = ⊤

-- a binary that comes is in the normal layout, and the text is its listing
abbrev pub IsListedBack : List ℕ → Assembled → Type 0
IsListedBack text (answers.Bytes bytes) = IsNormal bytes.items × IsListing bytes.items text
IsListedBack text (answers.Refused line rule) = ⊤
IsListedBack text (answers.Limit count) = ⊤
IsListedBack text answers.Mem = ⊤

-- this file is what comes, but where memory runs out
abbrev pub GivesBack : List ℕ → Assembled → Type 0
GivesBack file (answers.Bytes bytes) = bytes.items ≡ file
GivesBack file (answers.Refused line rule) = ⊥
GivesBack file (answers.Limit count) = ⊥
GivesBack file answers.Mem = ⊤
